-- JSON trees of lists of values.
use Rattle.std.proofs.Common.{String, Global, ◌≡◌, ℕ, List, [], ◌∷◌, ◌++◌, map, Less, Greater, refl, ap, ◌∙◌}
use Rattle.std.proofs.lemmas.Cmp.{nat_list_cmp_total}
use Rattle.std.specs.Cmp.Lexicographic.{slice_cmp}
use Rattle.std.specs.List.{AllByRecursion}
use Rattle.std.specs.List.Sorted.{IsStrictlySortedBy}
use Rattle.std.specs.Map.{keys_of}
use Rattle.std.specs.Ordering.{nat_cmp, ordering_reverse}
use Rattle.cv_json.specs.Json.{json_of, values_json, members_json}
use Rattle.cv_json.specs.Ranges.{MembersInRange}
use Rattle.cv_values.specs.Value.{Value, values_of, members_of}
use Rattle.serde_json.specs.Data.{item, member, put}
use Rattle.serde_json.specs.View.{items_of, members_view}
use Rattle.serde_json.specs.declared.value.Value.{Value as Tree}

-- the members that are written so far, and those that are left
pub record WrittenSoFar (fields left : List (List ℕ × Value)) (trees : List (String Global × Tree)) : Type 0 where
  pub done : List (List ℕ × Value)
  pub all : fields ≡ done ++ left
  pub written : members_view trees ≡ members_json (members_of done)
  pub in_range : MembersInRange (members_of left) → MembersInRange (members_of fields)

pub items_json : (vs : List Value) → items_of (map json_of vs) ≡ values_json (values_of vs)
items_json [] = refl
items_json (v ∷ vs) = ap (item (json_of v)) (items_json vs)

below_last : (k : List ℕ) (es : List (List ℕ × Value)) (e : List ℕ × Value) (more : List (List ℕ × Value)) → AllByRecursion (λ y. slice_cmp nat_cmp k y ≡ Less) (keys_of (es ++ e ∷ more)) → slice_cmp nat_cmp k e.0 ≡ Less
below_last k [] e more h = h.0
below_last k (x ∷ es) e more h = below_last k es e more h.1

-- a member whose name is above the others goes last
pub put_last : (done : List (List ℕ × Value)) (e : List ℕ × Value) (more : List (List ℕ × Value)) → IsStrictlySortedBy (slice_cmp nat_cmp) (keys_of (done ++ e ∷ more))
    → put e.0 (json_of e.1) (members_json (members_of done)) ≡ members_json (members_of (done ++ e ∷ []))
unfolding IsStrictlySortedBy
put_last [] e more h = refl
put_last (x ∷ done) e more h =
    let above : slice_cmp nat_cmp e.0 x.0 ≡ Greater = nat_list_cmp_total.antisymm e.0 x.0 ∙ ap ordering_reverse (below_last x.0 done e more h.0) in
    rw above (ap (member x.0 (json_of x.1)) (put_last done e more h.1))
