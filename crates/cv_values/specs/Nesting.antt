-- What a list of values or an object holds nests less deep than it does.
use Rattle.std.specs.Prelude.{ℕ, ◌+◌, ◌*◌, ◌≤◌, List, [], ◌∷◌, map}
use Rattle.std.proofs.Common.{arith}
use denote.Param.Weighed.{most}
use Rattle.cv_values.specs.Value.{depth_of}
use Rattle.cv_values.specs.Trees.{tree, greatest, greatest_member}
use Rattle.cv_values.specs.declared.val.Val.{Val}
use Rattle.cv_values.specs.declared.val.Val.TheVariants.{Null, Int, Bool, Str, Bin, Arr, Obj}
use Rattle.cv_values.specs.declared.val.Fields.TheDeep.{deep-Val, size-Val}

pub deep_le : (v : Val) → deep-Val v ≤ depth_of (tree v)
deep_le Null = omega arith
deep_le (Int n) = omega arith
deep_le (Bool b) = omega arith
deep_le (Str s) = omega arith
deep_le (Bin s) = omega arith
deep_le (Arr vs) = omega arith
deep_le (Obj ms) = omega arith

pub most_le : (vs : List Val) → most deep-Val vs ≤ greatest (map tree vs)
most_le [] = omega arith
most_le (v ∷ vs) = omega (arith, deep_le v, most_le vs)

pub most_member_le : (es : List (List ℕ × Val)) → most deep-Val (map (λ e. e.1) es) ≤ greatest_member (map (λ e. (e.0, tree e.1)) es)
most_member_le [] = omega arith
most_member_le (e ∷ es) = omega (arith, deep_le e.1, most_member_le es)

-- in the measure by which a recursion over values ends
pub sizes_le : (vs : List Val) → most size-Val vs ≤ 2 * most deep-Val vs + 1
sizes_le [] = omega arith
sizes_le (v ∷ vs) = omega (arith, sizes_le vs)

pub slice_falls : (vs : List Val) → most size-Val vs ≤ 2 * greatest (map tree vs) + 1
slice_falls vs = omega (arith, sizes_le vs, most_le vs)

pub map_falls : (es : List (List ℕ × Val)) → most size-Val (map (λ e. e.1) es) ≤ 2 * greatest_member (map (λ e. (e.0, tree e.1)) es) + 1
map_falls es = omega (arith, sizes_le (map (λ e. e.1) es), most_member_le es)

-- these values nest less deep than a value that holds them: by it a recursion over what is handed out ends
abbrev pub NestBelow : List Val → ℕ → Type 0
NestBelow vs depth = most size-Val vs ≤ 2 * depth + 1
