-- What operators and built-in functions give.
use Rattle.std.specs.Prelude.{Bool, true, false, List, [], ◌∷◌, Ok, Err}
use Rattle.std.specs.Ordering.{is_eq, is_ne, is_lt, is_le, is_gt, is_ge}
use Rattle.std.specs.declared.cmp.Ordering.{Ordering}
use Rattle.cv_values.specs.Order.{compare}
use Rattle.cv_values.specs.Value.{Value, boolean}
use Rattle.fn_ops.specs.Operations as ops
use Rattle.fn_ops.specs.declared.fault.OpFault.TheVariants.{Type_}
use Rattle.fn_tree.specs.Actions.{Action, ◌>>=◌, give, given, as_truth}
use Rattle.fn_tree.specs.declared.syntax.BinaryOp.{BinaryOp}
use Rattle.fn_tree.specs.declared.syntax.BinaryOp.TheVariants.{Or, And, Compare, Add, Subtract, Multiply, Divide, Remainder}
use Rattle.fn_tree.specs.declared.syntax.Builtin.{Builtin}
use Rattle.fn_tree.specs.declared.syntax.Builtin.TheVariants.{Len, Has, Push, Set, Without, Slice, Range, Show, Keys}
use Rattle.fn_tree.specs.declared.syntax.CompareOp.{CompareOp}
use Rattle.fn_tree.specs.declared.syntax.CompareOp.TheVariants as compare_op
use Rattle.fn_tree.specs.declared.syntax.UnaryOp.{UnaryOp}
use Rattle.fn_tree.specs.declared.syntax.UnaryOp.TheVariants.{Negate, Not}

abbrev pub holds : CompareOp → Ordering → Bool
holds compare_op.Equal o = is_eq o
holds compare_op.NotEqual o = is_ne o
holds compare_op.Less o = is_lt o
holds compare_op.LessEqual o = is_le o
holds compare_op.Greater o = is_gt o
holds compare_op.GreaterEqual o = is_ge o

abbrev pub compared : CompareOp → Value → Value → ops.Given
compared op v w = Ok (boolean (holds op (compare v w)))

abbrev pub unary_value : UnaryOp → Value → ops.Given
unary_value Negate v = ops.negate v
unary_value Not v = ops.opposite v

-- both sides are evaluated, the left one first
abbrev pub both : Action Value → Action Value → (Value → Value → ops.Given) → Action Value
both a b op = do
  v ← a
  w ← b
  given (op v w)

-- the right side, unless the left one, x, decides
abbrev pub right_side : (decides x : Bool) → Action Value → Action Value
right_side true true b = give (boolean true)
right_side false false b = give (boolean false)
right_side decides x b = do
  w ← b
  y ← as_truth w
  give (boolean y)

-- two truth values, of which the left one decides where it is this one
abbrev pub either : (decides : Bool) → Action Value → Action Value → Action Value
either decides a b = do
  v ← a
  x ← as_truth v
  right_side decides x b

-- what an operator gives that evaluates both sides; the other two don't
abbrev pub eager_value : BinaryOp → Value → Value → ops.Given
eager_value (Compare op) v w = compared op v w
eager_value Add v w = ops.add v w
eager_value Subtract v w = ops.subtract v w
eager_value Multiply v w = ops.multiply v w
eager_value Divide v w = ops.divide v w
eager_value Remainder v w = ops.remainder v w
eager_value op v w = Err Type_

abbrev pub binary_value : BinaryOp → Action Value → Action Value → Action Value
binary_value Or a b = either true a b
binary_value And a b = either false a b
binary_value op a b = both a b (eager_value op)

-- with another number of operands there is no value
abbrev pub builtin_value : Builtin → List Value → ops.Given
builtin_value Len (a ∷ []) = ops.length_of a
builtin_value Has (a ∷ s ∷ []) = ops.has a s
builtin_value Push (a ∷ v ∷ []) = ops.push a v
builtin_value Set (a ∷ s ∷ v ∷ []) = ops.set a s v
builtin_value Without (a ∷ s ∷ []) = ops.without a s
builtin_value Slice (a ∷ i ∷ j ∷ []) = ops.slice a i j
builtin_value Range (i ∷ j ∷ []) = ops.range i j
builtin_value Show (i ∷ []) = ops.show i
builtin_value Keys (a ∷ []) = ops.keys a
builtin_value b vs = Err Type_
