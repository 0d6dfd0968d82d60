-- What operations give, and what their faults say.
use Rattle.std.specs.Prelude.{◌≡◌, List, ℕ, Result, Ok, Err}
use Rattle.cv_values.specs.Trees.{tree}
use Rattle.cv_values.specs.Value.{Value}
use Rattle.cv_values.specs.declared.val.Val.{Val}
use Rattle.fn_ops.specs.Operations as ops
use Rattle.fn_ops.specs.declared.fault.OpFault.{OpFault}
use Rattle.fn_ops.specs.declared.fault.OpFault.TheVariants.{Type_, Memory as NoMemory}
use Rattle.fn_tree.specs.Actions.{op_text}
use Rattle.fn_tree.specs.Operators.{compared}
use Rattle.fn_tree.specs.declared.syntax.BinaryOp.{BinaryOp}
use Rattle.fn_tree.specs.declared.syntax.BinaryOp.TheVariants.{Or, And, Compare, Add, Subtract, Multiply, Divide, Remainder}
use Rattle.fn_plain.specs.Texts.{Says}
use Rattle.fn_plain.specs.declared.fault.Fault.{Fault}
use Rattle.fn_plain.specs.declared.fault.Fault.TheVariants.{Memory}

-- a fault of an operation ends the run with its text; want of memory is its own
abbrev pub Tells : Result Val OpFault → Result Val Fault → Type 0
Tells (Ok v) (Ok w) = w ≡ v
Tells (Err NoMemory) r = r ≡ Err Memory
Tells (Err e) (Err f) = Says f (op_text e)
Tells a b = ⊥

-- an operation gave what the definition gives, unless memory was wanting
abbrev pub OperationGives : Result Val OpFault → ops.Given → Type 0
OperationGives (Ok v) g = g ≡ Ok (tree v)
OperationGives (Err NoMemory) g = Unit {0}
OperationGives (Err e) g = g ≡ Err e
