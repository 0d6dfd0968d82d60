use Rattle.std.proofs.Common.{map, take, ap, sym, ◌∙◌}
use Rattle.std.proofs.lemmas.List.{take-map}
use Rattle.cv_values.specs.Trees.{tree}
use Rattle.fn_vm.proofs.frame.Slots.forget.Goals as goal

pub returns : goal.returns
returns c = ap (map tree) c.truncate.ensures.items ∙ sym (take-map tree c.args.n c.self.inside.items.items) ∙ ap (take c.args.n) c.self.view_is
