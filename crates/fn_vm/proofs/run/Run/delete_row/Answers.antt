use Rattle.std.proofs.Common.{refl, sym, subst}
use Rattle.std.proofs.lemmas.Result.{IfOk-weaker}
use Rattle.fn_tree.specs.Reading.{first_of}
use Rattle.fn_vm.proofs.WriteSteps.{deletes_as}
use Rattle.fn_vm.specs.Moves.{Moves}
use Rattle.fn_vm.specs.Views.{state_view, terms_view}
use Rattle.fn_vm.proofs.run.Run.delete_row.Goals as goal

pub returns : goal.returns
returns c =
    let s = c.args.self.now in
    let is = deletes_as (terms_view c.args.terms.now) (state_view s) (first_of c.args.docs.items) c.in-Some.old s.frame.stack c.pop.new.self c.in-Some-Str.text c.in-Some-read_id.id
    c.in-Some.ensures (rw c.in-Some-Str.field-0-is at c.in-Some-Str.ensures.some) c.in-Some-read_id.ensures in
    IfOk-weaker c.put.result _ _ (λ stop h. subst (λ x. Moves x stop (state_view c.put.new.self)) (sym is) (h 0 refl)) c.put.ensures
