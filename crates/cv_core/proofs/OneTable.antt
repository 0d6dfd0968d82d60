-- The rows of all tables after a change of one.
use Rattle.std.proofs.Common.{◌≡◌, ℕ, ◌+◌, ◌<◌, ◌≤◌, Bool, true, false, ◌&&◌, cond, List, length, set, Option, Some, sym, ap, ◌∙◌, subst, arith}
use Rattle.std.specs.Prelude.{slice_get, ◌==◌, OnOk, Result, Ok, Err}
use Rattle.std.proofs.lemmas.Bool.{eq-eqb, eqb-true}
use Rattle.cv_docs.specs.Entries.{inserted}
use Rattle.cv_docs.specs.IndexRows.{IndexRows}
use Rattle.fn_tree.proofs.DocumentLemmas.{by_test}
use Rattle.cv_core.specs.Changes.{is_at, entry_of}
use Rattle.cv_core.specs.Versioned.{rows_of, entries_or, spare_or, entries_at, spare_at}
use Rattle.cv_core.specs.declared.change.Change.{Change}
use Rattle.cv_core.proofs.Nested.{in_table, was_in_table, elsewhere}

pub on_ok : {T E : Type 0} (P Q : Type 0) (r : Result T E) → (P → Q) → OnOk r P → OnOk r Q
on_ok P Q (Ok t) f h = f h
on_ok P Q (Err e) f h = tt

eq_turned : (a b : ℕ) → (a == b) ≡ (b == a)
eq_turned a b = by_test (a == b)
    (λ q. q ∙ sym (eq-eqb b a (sym (eqb-true a b q))))
    (λ q. q ∙ sym (by_test (b == a) (λ p. let f : true ≡ false = sym (eq-eqb a b (sym (eqb-true b a p))) ∙ q in cc) (λ p. p)))

module _ (tables : List (List IndexRows)) (table : ℕ) (old new : List IndexRows) (there : slice_get tables table ≡ Some old) (within : table < length tables) where
  by_table : (t : ℕ) (P : Type 0) → (t ≡ table → P) → ((t ≡ table → ⊥) → P) → P
  by_table t P f g = by_test (t == table) (λ q. f (eqb-true t table q)) (λ q. g (λ e. let f : true ≡ false = sym (eq-eqb t table e) ∙ q in cc))

  -- what stays in each index of the table stays everywhere
  pub stays_at : {B : Type 0} (f : Option IndexRows → B) (i : ℕ) → f (slice_get new i) ≡ f (slice_get old i) → (t : ℕ) → f (rows_of t i (set tables table new)) ≡ f (rows_of t i tables)
  stays_at f i same t = by_table t (f (rows_of t i (set tables table new)) ≡ f (rows_of t i tables))
      (λ e.
      ap (λ (k : ℕ). f (rows_of k i (set tables table new))) e ∙ in_table tables table old new there within f i ∙ same ∙ sym (was_in_table tables table old new there within f i)
      ∙ ap (λ (k : ℕ). f (rows_of k i tables)) (sym e))
      (λ n. elsewhere tables table old new there within f t i n)

  pub spare_grows : ((i : ℕ) → spare_or (slice_get old i) ≤ spare_or (slice_get new i)) → (t i : ℕ) → spare_at t i tables ≤ spare_at t i (set tables table new)
  spare_grows h t i = by_table t (spare_at t i tables ≤ spare_at t i (set tables table new))
      (λ e.
      let was : spare_at t i tables ≡ spare_or (slice_get old i) = ap (λ (k : ℕ). spare_at k i tables) e ∙ was_in_table tables table old new there within spare_or i in
      let is : spare_at t i (set tables table new) ≡ spare_or (slice_get new i) = ap (λ (k : ℕ). spare_at k i (set tables table new)) e ∙ in_table tables table old new there within spare_or i in
      let step = h i in
      omega (arith, was, is, step))
      (λ m. let same = elsewhere tables table old new there within spare_or t i m in omega (arith, same))

  pub room_there : (index each : ℕ) → each ≤ spare_or (slice_get new index) → each ≤ spare_at table index (set tables table new)
  room_there index each h = subst (λ (n : ℕ). each ≤ n) (sym (in_table tables table old new there within spare_or index)) h

  module _ (ts : ℕ) (c : Change) (own : c.table ≡ table) where
    pub rows_inserted : ((i : ℕ) → entries_or (slice_get new i) ≡ cond (i == c.index) (inserted (entry_of ts c) (entries_or (slice_get old i))) (entries_or (slice_get old i)))
        → (t i : ℕ) → entries_at t i (set tables table new) ≡ cond (is_at t i c) (inserted (entry_of ts c) (entries_at t i tables)) (entries_at t i tables)
    rows_inserted h t i = by_table t (entries_at t i (set tables table new) ≡ cond (is_at t i c) (inserted (entry_of ts c) (entries_at t i tables)) (entries_at t i tables))
        (λ e.
        let was : entries_at t i tables ≡ entries_or (slice_get old i) = ap (λ (k : ℕ). entries_at k i tables) e ∙ was_in_table tables table old new there within entries_or i in
        let here : (c.table == t) ≡ true = eq-eqb c.table t (own ∙ sym e) in
        ap (λ (k : ℕ). entries_at k i (set tables table new)) e ∙ in_table tables table old new there within entries_or i ∙ h i
        ∙ ap (λ b. cond b (inserted (entry_of ts c) (entries_or (slice_get old i))) (entries_or (slice_get old i))) (eq_turned i c.index)
        ∙ ap (λ es. cond (c.index == i) (inserted (entry_of ts c) es) es) (sym was)
        ∙ ap (λ b. cond (b && (c.index == i)) (inserted (entry_of ts c) (entries_at t i tables)) (entries_at t i tables)) (sym here))
        (λ n.
        let away : (c.table == t) ≡ false = by_test (c.table == t) (λ q. absurd (n (sym (eqb-true c.table t q) ∙ own))) (λ q. q) in
        elsewhere tables table old new there within entries_or t i n
        ∙ ap (λ b. cond (b && (c.index == i)) (inserted (entry_of ts c) (entries_at t i tables)) (entries_at t i tables)) (sym away))

    pub spare_left : ((i : ℕ) → spare_or (slice_get old i) ≤ spare_or (slice_get new i) + cond (i == c.index) 1 0)
        → (t i : ℕ) → spare_at t i tables ≤ spare_at t i (set tables table new) + cond (is_at t i c) 1 0
    spare_left h t i = by_table t (spare_at t i tables ≤ spare_at t i (set tables table new) + cond (is_at t i c) 1 0)
        (λ e.
        let was : spare_at t i tables ≡ spare_or (slice_get old i) = ap (λ (k : ℕ). spare_at k i tables) e ∙ was_in_table tables table old new there within spare_or i in
        let is : spare_at t i (set tables table new) ≡ spare_or (slice_get new i) = ap (λ (k : ℕ). spare_at k i (set tables table new)) e ∙ in_table tables table old new there within spare_or i in
        let here : (c.table == t) ≡ true = eq-eqb c.table t (own ∙ sym e) in
        let one : cond (is_at t i c) 1 0 ≡ cond (i == c.index) 1 0 = ap (λ b. one_if (b && (c.index == i))) here ∙ ap one_if (eq_turned c.index i) in
        let step = h i in
        omega (arith, was, is, one, step))
        (λ n. let same = elsewhere tables table old new there within spare_or t i n in omega (arith, same))
      where
        one_if : Bool → ℕ
        one_if b = cond b 1 0
