use Rattle.std.proofs.Common.{sym, ap, ◌∙◌}
use Rattle.std.specs.Prelude.{position}
use Rattle.fn_plain.proofs.Variables.{assigned-set, assigned-none}
use Rattle.fn_plain.proofs.scope.assign.Goals as goal

pub returns-in-Some : goal.returns-in-Some
returns-in-Some c = assigned-set c.args.name.now c.args.value c.args.scope.now.items c.index_mut.result.now c.in-Some.at (sym c.in-Some.is ∙ c.position_of.ensures ∙ ap (position _) c.as_slice.ensures.value) c.index_mut.ensures.value

pub returns-in-None : goal.returns-in-None
returns-in-None c = assigned-none c.args.name.now _ c.args.scope.now.items (sym (ap (position _) c.as_slice.ensures.value) ∙ sym c.position_of.ensures ∙ c.in-None.is)
