use Rattle.std.proofs.Common.{◌≡◌, Err, subst, refl}
use Rattle.fn_ops.specs.declared.fault.OpFault.{OpFault}
use Rattle.fn_ops.specs.declared.fault.OpFault.TheVariants as fault
use Rattle.fn_tree.specs.Actions.{op_text}
use Rattle.fn_plain.specs.Operations.{Tells}
use Rattle.fn_plain.specs.Texts.{Says}
use Rattle.fn_plain.specs.declared.fault.Fault.{Fault}
use Rattle.fn_plain.proofs.operator.fault_of.Goals as goal

-- any other fault than want of memory says its text
tells : (e : OpFault) (f : Fault) → (e ≡ fault.Memory → ⊥) → Says f (op_text e) → Tells (Err e) (Err f)
tells fault.Type_ f other h = h
tells fault.Overflow f other h = h
tells fault.DivisionByZero f other h = h
tells fault.NoField f other h = h
tells fault.OutOfRange f other h = h
tells fault.BadName f other h = h
tells fault.TooDeep f other h = h
tells fault.TooMany f other h = h
tells fault.TooLarge f other h = h
tells fault.Memory f other h = let no : ⊥ = other refl in elim no [ ]

pub returns-in_default : goal.returns-in_default
returns-in_default c = tells c.args.fault c.failure.result c.in_default.not-Memory (subst (Says c.failure.result) c.op_text.ensures c.failure.ensures)
