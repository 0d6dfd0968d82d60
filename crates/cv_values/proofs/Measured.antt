-- How measures of parts make that of the whole.
use Rattle.std.proofs.Common.{◌≡◌, ℕ, ◌-◌, ◌^◌, ◌≤◌, Bool, true, false, ◌||◌, List, [], ◌∷◌, ◌++◌, map, Ordering, Less, Equal, Greater, Option, Some, None, cond, refl, sym, ap, ◌∙◌, arith}
use Rattle.std.specs.BTreeMap.{insert_entry, is_at}
use Rattle.std.specs.Map.{lookup}
use Rattle.std.specs.Ordering.{match_ordering, is_eq}
use Rattle.cv_values.specs.Measures.{nothing, add, of_value, of_member, of_values, of_members}
use Rattle.cv_values.specs.Trees.{tree}
use Rattle.cv_values.specs.Value.{Value}
use Rattle.cv_values.specs.declared.measure.Measure.{Measure}
use Rattle.cv_values.specs.declared.val.Val.{Val}

or_assoc : (a b c : Bool) → ((a || b) || c) ≡ (a || (b || c))
or_assoc true b c = refl
or_assoc false b c = refl

or_comm : (a b : Bool) → (a || b) ≡ (b || a)
or_comm true true = refl
or_comm true false = refl
or_comm false true = refl
or_comm false false = refl

same : (a b : Measure) → a.size ≡ b.size → a.depth ≡ b.depth → a.many ≡ b.many → a.bad ≡ b.bad → a.bad_stored ≡ b.bad_stored → a ≡ b
same a b size depth many bad bad_stored = λ i. record { size = size i; depth = depth i; many = many i; bad = bad i; bad_stored = bad_stored i }

pub add_assoc : (a b c : Measure) → add (add a b) c ≡ add a (add b c)
add_assoc a b c = same (add (add a b) c) (add a (add b c)) (omega arith) (omega arith) (or_assoc a.many b.many c.many) (or_assoc a.bad b.bad c.bad) (or_assoc a.bad_stored b.bad_stored c.bad_stored)

pub add_comm : (a b : Measure) → add a b ≡ add b a
add_comm a b = same (add a b) (add b a) (omega arith) (omega arith) (or_comm a.many b.many) (or_comm a.bad b.bad) (or_comm a.bad_stored b.bad_stored)

-- one more in front
pub values_step : (v : Value) (vs : List Value) → of_values (v ∷ vs) ≡ add (of_value v) (of_values vs)
values_step v vs = same (of_values (v ∷ vs)) (add (of_value v) (of_values vs)) (omega arith) (omega arith) refl refl refl

pub members_step : (m : List ℕ × Value) (ms : List (List ℕ × Value)) → of_members (m ∷ ms) ≡ add (of_member m) (of_members ms)
members_step m ms = same (of_members (m ∷ ms)) (add (of_member m) (of_members ms)) (omega arith) (omega arith) refl refl refl

-- one more at the end
pub items_last : (vs : List Val) (v : Val) → of_values (map tree (vs ++ v ∷ [])) ≡ add (of_values (map tree vs)) (of_value (tree v))
items_last [] v = values_step (tree v) [] ∙ add_comm (of_value (tree v)) nothing
items_last (w ∷ vs) v =
    values_step (tree w) (map tree (vs ++ v ∷ [])) ∙ ap (λ m. add (of_value (tree w)) m) (items_last vs v)
    ∙ sym (add_assoc (of_value (tree w)) (of_values (map tree vs)) (of_value (tree v))) ∙ ap (λ m. add m (of_value (tree v))) (sym (values_step (tree w) (map tree vs)))

-- a name that was not there
pub members_fresh : (cmp : List ℕ → List ℕ → Ordering) (ms : List (List ℕ × Value)) (k : List ℕ) (v : Value) → lookup (is_at (cmp k)) ms ≡ None
    → of_members (insert_entry cmp ms k v) ≡ add (of_members ms) (of_member (k, v))
members_fresh cmp [] k v fresh = members_step (k, v) [] ∙ add_comm (of_member (k, v)) nothing
members_fresh cmp (e ∷ ms) k v fresh = go (cmp k e.0) fresh (λ f. members_fresh cmp ms k v f)
  where
    go : (o : Ordering) → cond (is_eq o) (Some e.1) (lookup (is_at (cmp k)) ms) ≡ None
        → (lookup (is_at (cmp k)) ms ≡ None → of_members (insert_entry cmp ms k v) ≡ add (of_members ms) (of_member (k, v)))
        → of_members (match_ordering o ((k, v) ∷ e ∷ ms) ((e.0, v) ∷ ms) (e ∷ insert_entry cmp ms k v)) ≡ add (of_members (e ∷ ms)) (of_member (k, v))
    go Less f later = members_step (k, v) (e ∷ ms) ∙ add_comm (of_member (k, v)) (of_members (e ∷ ms))
    go Equal f later = absurd (let g : ◌≡◌ {A = Option Value} (Some e.1) None = f in cc)
    go Greater f later =
        members_step e (insert_entry cmp ms k v) ∙ ap (λ m. add (of_member e) m) (later f)
        ∙ sym (add_assoc (of_member e) (of_members ms) (of_member (k, v))) ∙ ap (λ m. add m (of_member (k, v))) (sym (members_step e ms))

-- before the first, at one more, and after the last
pub values_begin : (vs : List Value) → add nothing (of_values vs) ≡ of_values vs
values_begin vs = same (add nothing (of_values vs)) (of_values vs) (omega arith) (omega arith) refl refl refl

pub values_more : (t : Measure) (v : Value) (vs : List Value) → add (add t (of_value v)) (of_values vs) ≡ add t (of_values (v ∷ vs))
values_more t v vs = add_assoc t (of_value v) (of_values vs) ∙ ap (λ m. add t m) (sym (values_step v vs))

pub members_begin : (ms : List (List ℕ × Value)) → add nothing (of_members ms) ≡ of_members ms
members_begin ms = same (add nothing (of_members ms)) (of_members ms) (omega arith) (omega arith) refl refl refl

pub members_more : (t : Measure) (m : List ℕ × Value) (ms : List (List ℕ × Value)) → add (add t (of_member m)) (of_members ms) ≡ add t (of_members (m ∷ ms))
members_more t m ms = add_assoc t (of_member m) (of_members ms) ∙ ap (λ m. add t m) (sym (members_step m ms))

pub add_nothing : (t : Measure) → t.size ≤ 2 ^ 64 - 1 → add t nothing ≡ t
add_nothing t fits = same (add t nothing) t (omega (arith, fits)) (omega arith) (or_comm t.many false) (or_comm t.bad false) (or_comm t.bad_stored false)
