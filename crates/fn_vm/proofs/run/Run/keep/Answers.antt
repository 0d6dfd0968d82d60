use Rattle.std.proofs.Common.{◌≡◌, ℕ, ◌+◌, List, Ok, Result, sym, ap, ◌∙◌, subst, arith}
use Rattle.cv_values.specs.Trees.{tree}
use Rattle.cv_values.specs.Value.{Value, null}
use Rattle.cv_values.specs.declared.val.Val.{Val}
use Rattle.fn_code.specs.Operands.{stored}
use Rattle.fn_code.specs.States.{Next, on}
use Rattle.fn_code.specs.Steps.{pushes_given}
use Rattle.fn_code.specs.declared.code.Instr.TheVariants as instr
use Rattle.fn_ops.specs.Operations.{Given}
use Rattle.fn_ops.specs.declared.fault.OpFault.{OpFault}
use Rattle.fn_vm.proofs.LastUses.{stored_again}
use Rattle.fn_vm.specs.Held.{IsGiven}
use Rattle.fn_vm.specs.LastUses.{followed_by, with_vars}
use Rattle.fn_vm.specs.Views.{state_view}
use Rattle.fn_vm.proofs.run.Run.keep.Goals as goal

pub returns-in-Ok : goal.returns-in-Ok
returns-in-Ok c t code vars g same given =
    let s = state_view c.args.self.now in
    let v = tree c.in-Ok.v in
    let gives : g ≡ Ok v = (subst (λ (r : Result Val OpFault). IsGiven r g) c.in-Ok.is given).0 in
    let place : s.frame.at + 1 + 1 ≡ s.frame.at + 2 = omega arith in
    let kept : stored c.args.n v vars ≡ c.store.new.self = sym (c.store.ensures ∙ ap (stored c.args.n v) same ∙ stored_again c.args.n v null vars) in
    let next : ℕ → List Value → Next = λ at xs. on (record { frame = record { at = at; vars = xs; stack = s.frame.stack; loops = s.frame.loops }; callers = s.callers; counts = s.counts }) in
    let moved : next (s.frame.at + 1 + 1) (stored c.args.n v vars) ≡ next (s.frame.at + 2) c.store.new.self = λ i. next (place i) (kept i) in
    ap (λ (x : Given). followed_by t code (instr.Store c.args.n) (pushes_given (with_vars vars s) x s.frame.stack)) gives ∙ moved
