use Rattle.std.proofs.Common.{sym, subst}
use Rattle.std.proofs.lemmas.Result.{IfOk-weaker}
use Rattle.fn_tree.specs.Reading.{first_of}
use Rattle.fn_vm.proofs.WriteSteps.{changes_as}
use Rattle.fn_vm.specs.Moves.{Moves}
use Rattle.fn_vm.specs.Views.{state_view, terms_view}
use Rattle.fn_vm.specs.Written.{changed}
use Rattle.fn_vm.proofs.run.Run.change_row.Goals as goal

pub returns : goal.returns
returns c =
    let s = c.args.self.now in
    let is = changes_as (terms_view c.args.terms.now) (state_view s) (changed c.args.change) (first_of c.args.docs.items) c.in-Some.old c.changed_document-new.result s.frame.stack c.pop.new.self c.pop-2.new.self
    c.in-Some-Obj.members c.in_ok-fields.fields c.in-Some-Str.text c.in-Some-read_id.id
    c.in-Some.ensures (rw c.in-Some-Obj.field-0-is at c.in-Some-Obj.ensures.some) (rw c.in-Some-Str.field-0-is at c.in-Some-Str.ensures.some) c.in-Some-read_id.ensures c.in_ok-fields.ensures c.changed_document-new.ensures in
    IfOk-weaker c.store_document.result _ _ (λ stop h. subst (λ x. Moves x stop (state_view c.store_document.new.self)) (sym is) h) c.store_document.ensures
