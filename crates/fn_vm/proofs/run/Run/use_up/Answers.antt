use Rattle.std.proofs.Common.{◌≡◌, sym, subst}
use Rattle.std.specs.Prelude.{IfOk}
use Rattle.fn_code.specs.Steps.{step_by}
use Rattle.fn_vm.specs.LastUses.{first_in, second_in, followed_by}
use Rattle.fn_vm.specs.Views.{state_view, terms_view, went}
use Rattle.fn_vm.specs.declared.last_use.LastUse.{LastUse}
use Rattle.fn_vm.proofs.run.Run.use_up.Goals as goal

pub returns-in-Push : goal.returns-in-Push
returns-in-Push c code =
    let t = terms_view c.args.terms.now in
    subst (λ (last : LastUse). IfOk c.push_item.result (λ o. followed_by t code (second_in last) (step_by t code (state_view c.args.self.now) (first_in last)) ≡ went o (state_view c.push_item.new.self)))
    (sym c.in-Push.is) (c.push_item.ensures t code)

pub returns-in-Set : goal.returns-in-Set
returns-in-Set c code =
    let t = terms_view c.args.terms.now in
    subst (λ (last : LastUse). IfOk c.set_field.result (λ o. followed_by t code (second_in last) (step_by t code (state_view c.args.self.now) (first_in last)) ≡ went o (state_view c.set_field.new.self)))
    (sym c.in-Set.is) (c.set_field.ensures t code)

pub returns-in-Return : goal.returns-in-Return
returns-in-Return c code =
    let t = terms_view c.args.terms.now in
    subst (λ (last : LastUse). IfOk c.give_slot.result (λ o. followed_by t code (second_in last) (step_by t code (state_view c.args.self.now) (first_in last)) ≡ went o (state_view c.give_slot.new.self)))
    (sym c.in-Return.is) (c.give_slot.ensures code)
