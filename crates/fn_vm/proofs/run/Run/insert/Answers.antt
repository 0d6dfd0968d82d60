use Rattle.std.proofs.Common.{sym, subst, refl}
use Rattle.std.proofs.lemmas.Result.{IfOk-weaker}
use Rattle.fn_vm.proofs.WriteSteps.{inserts_as}
use Rattle.fn_vm.specs.Moves.{Moves}
use Rattle.fn_vm.specs.Views.{state_view, terms_view}
use Rattle.fn_vm.proofs.run.Run.insert.Goals as goal

pub returns : goal.returns
returns c =
    let s = c.args.self.now in
    let is = inserts_as (terms_view c.args.terms.now) (state_view s) c.args.table c.args.terms.now.origin c.in-Some.origin s.frame.stack c.pop.new.self c.in-Some-Obj.fields _ c.new_document-new.result c.in_ok-id_text.field-0
    c.in-Some.is (rw c.in-Some-Obj.field-0-is at c.in-Some-Obj.ensures.some) refl c.new_document-new.ensures c.in_ok-id_text.ensures in
    IfOk-weaker c.store_document.result _ _ (λ stop h. subst (λ x. Moves x stop (state_view c.store_document.new.self)) (sym is) h) c.store_document.ensures
