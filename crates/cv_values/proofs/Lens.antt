-- How many values or members there are.
use Rattle.std.proofs.Common.{◌≡◌, ℕ, List, [], ◌∷◌, length, map, arith}
use Rattle.cv_values.specs.Sizes.{values_len, members_len}
use Rattle.cv_values.specs.Trees.{tree}
use Rattle.cv_values.specs.Value.{Value, values_of, members_of}
use Rattle.cv_values.specs.declared.val.Val.{Val}

pub values_len_is : (vs : List Val) → values_len (values_of (map tree vs)) ≡ length vs
values_len_is [] = omega arith
values_len_is (v ∷ vs) = omega (arith, values_len_is vs)

pub members_len_is : (ms : List (List ℕ × Value)) → members_len (members_of ms) ≡ length ms
members_len_is [] = omega arith
members_len_is (m ∷ ms) = omega (arith, members_len_is ms)
