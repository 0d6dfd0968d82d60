-- The members that are left without a name, put into an object one by one.
use Rattle.std.proofs.Common.{◌≡◌, ℕ, Bool, true, false, not, List, [], ◌∷◌, ◌++◌, filter, cond, refl, sym, ap, ◌∙◌, subst, append-nil, append_assoc}
use Rattle.std.proofs.lemmas.Cmp.{nat_list_cmp_total}
use Rattle.std.proofs.lemmas.List.Kept.{IsStrictlySortedBy-filter}
use Rattle.std.specs.BTreeMap.{insert_entry, is_at}
use Rattle.std.specs.List.Sorted.{IsStrictlySortedBy}
use Rattle.std.specs.Map.{keys_of}
use Rattle.cv_values.proofs.Entries.{insert_entry-last}
use Rattle.cv_values.specs.Order.{text_cmp}
use Rattle.cv_values.specs.Value.{Value}

abbrev Pairs : Type 0
Pairs = List (List ℕ × Value)

-- with these put in, one by one
abbrev pub inserted : Pairs → Pairs → Pairs
inserted ms [] = ms
inserted ms (e ∷ es) = inserted (insert_entry text_cmp ms e.0 e.1) es

-- the members of other names
abbrev pub others : List ℕ → Pairs → Pairs
others n ms = filter (λ m. not (is_at (text_cmp n) m.0)) ms

inserted_sorted : (ms es : Pairs) → IsStrictlySortedBy text_cmp (keys_of (ms ++ es)) → inserted ms es ≡ ms ++ es
inserted_sorted ms [] h = sym (append-nil ms)
inserted_sorted ms (e ∷ es) h =
    let last = insert_entry-last nat_list_cmp_total ms e es h in
    let again : (ms ++ e ∷ []) ++ es ≡ ms ++ e ∷ es = append_assoc ms (e ∷ []) es in
    ap (λ l. inserted l es) last
    ∙ inserted_sorted (ms ++ e ∷ []) es (subst (λ (l : Pairs). IsStrictlySortedBy text_cmp (keys_of l)) (sym again) h)
    ∙ again

keys_of_others : (n : List ℕ) (ms : Pairs) → keys_of (others n ms) ≡ filter (λ k. not (is_at (text_cmp n) k)) (keys_of ms)
keys_of_others n [] = refl
keys_of_others n (m ∷ ms) = go (is_at (text_cmp n) m.0) (keys_of_others n ms) where
  go : (b : Bool) → keys_of (others n ms) ≡ filter (λ k. not (is_at (text_cmp n) k)) (keys_of ms) → keys_of (cond (not b) (m ∷ others n ms) (others n ms)) ≡ cond (not b) (m.0 ∷ filter (λ k. not (is_at (text_cmp n) k)) (keys_of ms)) (filter (λ k. not (is_at (text_cmp n) k)) (keys_of ms))
  go true e = e
  go false e = ap (λ l. m.0 ∷ l) e

pub inserted_others : (n : List ℕ) (ms : Pairs) → IsStrictlySortedBy text_cmp (keys_of ms) → inserted [] (others n ms) ≡ others n ms
inserted_others n ms h =
    inserted_sorted [] (others n ms) (rw (keys_of_others n ms) (IsStrictlySortedBy-filter text_cmp (λ k. not (is_at (text_cmp n) k)) (keys_of ms) h))
