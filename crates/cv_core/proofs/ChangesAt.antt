-- The changes of one index among those of writes.
use Rattle.std.proofs.Common.{◌≡◌, ℕ, zero, suc, ◌+◌, ◌≤◌, Bool, true, false, cond, List, [], ◌∷◌, ◌++◌, Option, Some, None, refl, sym, ap, ◌∙◌, arith}
use Rattle.std.specs.Prelude.{slice_get, ◌==◌}
use Rattle.std.specs.List.{AllByRecursion}
use Rattle.std.proofs.lemmas.Bool.{and_from, and_parts, eq-eqb, eqb-true}
use Rattle.cv_values.specs.declared.doc.Doc.{Doc}
use Rattle.cv_keys.specs.Documents.{index_at, indexes_of}
use Rattle.cv_keys.specs.declared.schema.Index.{Index}
use Rattle.cv_keys.specs.declared.schema.Schema.{Schema}
use Rattle.cv_keys.specs.declared.write.Write.{Write}
use Rattle.fn_tree.proofs.DocumentLemmas.{by_test}
use Rattle.cv_core.specs.Changes.{doc_key, has_key, gone, put, changes_in, write_changes, is_at, changes_at}
use Rattle.cv_core.specs.declared.change.Change.{Change}

-- changes of this index
abbrev AllOf : (table index : ℕ) → List Change → Type 0
AllOf table index cs = AllByRecursion (λ c. (c.table ≡ table) × (c.index ≡ index)) cs

gone_of : (table index : ℕ) (x : Index) (old new : Option Doc) → AllOf table index (gone table index x old new)
gone_of table index x None new = tt
gone_of table index x (Some d) new = go (has_key x (doc_key x d) new)
  where
    go : (b : Bool) → AllOf table index (cond b [] (record { table = table; index = index; key = doc_key x d; version = None } ∷ []))
    go true = tt
    go false = ((refl, refl), tt)

put_of : (table index : ℕ) (x : Index) (n : ℕ) (new : Option Doc) → AllOf table index (put table index x n new)
put_of table index x n None = tt
put_of table index x n (Some d) = ((refl, refl), tt)

kept_all : (table index : ℕ) (cs : List Change) → AllOf table index cs → changes_at table index cs ≡ cs
kept_all table index [] h = refl
kept_all table index (c ∷ cs) h =
    ap (λ b. cond b (c ∷ changes_at table index cs) (changes_at table index cs)) (and_from (c.table == table) (c.index == index) (eq-eqb c.table table h.0.0) (eq-eqb c.index index h.0.1))
    ∙ ap (λ r. c ∷ r) (kept_all table index cs h.1)

none_kept : (table index u j : ℕ) (cs : List Change) → (u ≡ table → j ≡ index → ⊥) → AllOf u j cs → changes_at table index cs ≡ []
none_kept table index u j [] n h = refl
none_kept table index u j (c ∷ cs) n h =
    ap (λ b. cond b (c ∷ changes_at table index cs) (changes_at table index cs)) away ∙ none_kept table index u j cs n h.1
  where
    away : is_at table index c ≡ false
    away = by_test (is_at table index c)
        (λ q. let parts = and_parts (c.table == table) (c.index == index) q in
        absurd (n (sym h.0.0 ∙ eqb-true c.table table parts.0) (sym h.0.1 ∙ eqb-true c.index index parts.1)))
        (λ q. q)

pub at-append : (table index : ℕ) (a b : List Change) → changes_at table index (a ++ b) ≡ changes_at table index a ++ changes_at table index b
at-append table index [] b = refl
at-append table index (c ∷ a) b = go (is_at table index c) (at-append table index a b)
  where
    go : (t : Bool) → changes_at table index (a ++ b) ≡ changes_at table index a ++ changes_at table index b
        → cond t (c ∷ changes_at table index (a ++ b)) (changes_at table index (a ++ b)) ≡ cond t (c ∷ changes_at table index a) (changes_at table index a) ++ changes_at table index b
    go true ih = ap (λ r. c ∷ r) ih
    go false ih = ih

both_none : (a b : List Change) → a ≡ [] → b ≡ [] → a ++ b ≡ []
both_none a b p q = ap (λ r. r ++ b) p ∙ q

module _ (n : ℕ) (old new : Option Doc) (table index u : ℕ) where
  -- those of other indexes
  here_none : (j : ℕ) (y : Index) → (u ≡ table → j ≡ index → ⊥) → changes_at table index (gone u j y old new ++ put u j y n new) ≡ []
  here_none j y h =
      at-append table index (gone u j y old new) (put u j y n new)
      ∙ both_none (changes_at table index (gone u j y old new)) (changes_at table index (put u j y n new))
      (none_kept table index u j (gone u j y old new) h (gone_of u j y old new)) (none_kept table index u j (put u j y n new) h (put_of u j y n new))

  in_none : (j : ℕ) (xs : List Index) → ((i : ℕ) → j ≤ i → u ≡ table → i ≡ index → ⊥) → changes_at table index (changes_in u n old new j xs) ≡ []
  in_none j [] h = refl
  in_none j (y ∷ ys) h =
      at-append table index (gone u j y old new ++ put u j y n new) (changes_in u n old new (j + 1) ys)
      ∙ both_none (changes_at table index (gone u j y old new ++ put u j y n new)) (changes_at table index (changes_in u n old new (j + 1) ys))
      (here_none j y (h j (omega arith))) (in_none (j + 1) ys (λ i l. h i (omega (arith, l))))

module _ (n : ℕ) (old new : Option Doc) (table index : ℕ) where
  here_all : (x : Index) → changes_at table index (gone table index x old new ++ put table index x n new) ≡ gone table index x old new ++ put table index x n new
  here_all x =
      at-append table index (gone table index x old new) (put table index x n new)
      ∙ ap (λ r. r ++ changes_at table index (put table index x n new)) (kept_all table index (gone table index x old new) (gone_of table index x old new))
      ∙ ap (λ r. gone table index x old new ++ r) (kept_all table index (put table index x n new) (put_of table index x n new))

  in_at : (j i : ℕ) (xs : List Index) (x : Index) → index ≡ j + i → slice_get xs i ≡ Some x
      → changes_at table index (changes_in table n old new j xs) ≡ gone table index x old new ++ put table index x n new
  in_at j i [] x p at = cc
  in_at j zero (y ∷ ys) x p at =
      let same : j ≡ index = omega (arith, p) in
      let index_is : y ≡ x = cc in
      at-append table index (gone table j y old new ++ put table j y n new) (changes_in table n old new (j + 1) ys)
      ∙ ap (λ r. changes_at table index (gone table j y old new ++ put table j y n new) ++ r)
      (in_none n old new table index table (j + 1) ys (λ i l t e. absurd (omega (arith, l, e, p))))
      ∙ append_nothing (changes_at table index (gone table j y old new ++ put table j y n new))
      ∙ ap (λ (k : ℕ). changes_at table index (gone table k y old new ++ put table k y n new)) same
      ∙ ap (λ (z : Index). changes_at table index (gone table index z old new ++ put table index z n new)) index_is
      ∙ here_all x
    where
      append_nothing : (a : List Change) → a ++ [] ≡ a
      append_nothing [] = refl
      append_nothing (c ∷ a) = ap (λ r. c ∷ r) (append_nothing a)
  in_at j (suc i) (y ∷ ys) x p at =
      at-append table index (gone table j y old new ++ put table j y n new) (changes_in table n old new (j + 1) ys)
      ∙ ap (λ r. r ++ changes_at table index (changes_in table n old new (j + 1) ys)) (here_none n old new table index table j y (λ t e. absurd (omega (arith, e, p))))
      ∙ in_at (j + 1) i ys x (omega (arith, p)) at

module _ (schema : Schema) (table index : ℕ) where
  -- of a write of the table
  pub write_at : (x : Index) (n : ℕ) (w : Write) → index_at schema table index ≡ Some x → w.id.table ≡ table
      → changes_at table index (write_changes schema n w) ≡ gone table index x w.old w.new ++ put table index x n w.new
  write_at x n w at t =
      ap (λ (u : ℕ). changes_at table index (changes_in u n w.old w.new 0 (indexes_of schema u))) t
      ∙ in_at n w.old w.new table index 0 index (indexes_of schema table) x (omega arith) at

  -- of a write of another table
  pub write_elsewhere : (n : ℕ) (w : Write) → (w.id.table ≡ table → ⊥) → changes_at table index (write_changes schema n w) ≡ []
  write_elsewhere n w h = in_none n w.old w.new table index w.id.table 0 (indexes_of schema w.id.table) (λ i l t e. h t)

  -- where there is no such index
  no_slot : (n : ℕ) (old new : Option Doc) (j i : ℕ) (xs : List Index) → index ≡ j + i → slice_get xs i ≡ None → changes_at table index (changes_in table n old new j xs) ≡ []
  no_slot n old new j i [] p at = refl
  no_slot n old new j zero (y ∷ ys) p at = cc
  no_slot n old new j (suc i) (y ∷ ys) p at =
      at-append table index (gone table j y old new ++ put table j y n new) (changes_in table n old new (j + 1) ys)
      ∙ both_none (changes_at table index (gone table j y old new ++ put table j y n new)) (changes_at table index (changes_in table n old new (j + 1) ys))
      (here_none n old new table index table j y (λ t e. absurd (omega (arith, e, p)))) (no_slot n old new (j + 1) i ys (omega (arith, p)) at)

  pub write_nowhere : (n : ℕ) (w : Write) → index_at schema table index ≡ None → changes_at table index (write_changes schema n w) ≡ []
  write_nowhere n w at = by_table (w.id.table == table) refl
    where
      by_table : (b : Bool) → (w.id.table == table) ≡ b → changes_at table index (write_changes schema n w) ≡ []
      by_table true q =
          let t : w.id.table ≡ table = eqb-true w.id.table table q in
          ap (λ (u : ℕ). changes_at table index (changes_in u n w.old w.new 0 (indexes_of schema u))) t
          ∙ no_slot n w.old w.new 0 index (indexes_of schema table) (omega arith) at
      by_table false q = write_elsewhere n w (λ t. let f : true ≡ false = sym (eq-eqb w.id.table table t) ∙ q in cc)
