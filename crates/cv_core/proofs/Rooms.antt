-- Room for the changes of writes.
use Rattle.std.proofs.Common.{◌≡◌, ◌⊎◌, inl, inr, ℕ, ◌*◌, ◌≤◌, Bool, true, false, cond, List, [], ◌∷◌, length, Option, Some, None, refl, sym, ap, ◌∙◌, subst, length-append, arith}
use Rattle.std.specs.Prelude.{◌==◌}
use Rattle.std.specs.List.{AllByRecursion}
use Rattle.std.proofs.lemmas.Bool.{and_parts, eq-eqb, eqb-true}
use Rattle.cv_values.specs.declared.doc.Doc.{Doc}
use Rattle.cv_keys.specs.Documents.{index_at}
use Rattle.cv_keys.specs.declared.schema.Index.{Index}
use Rattle.cv_keys.specs.declared.schema.Schema.{Schema}
use Rattle.cv_keys.specs.declared.write.Write.{Write}
use Rattle.cv_docs.specs.IndexRows.{IndexRows}
use Rattle.fn_tree.proofs.DocumentLemmas.{by_test}
use Rattle.cv_core.specs.Changes.{doc_key, has_key, gone, put, write_changes, next_version, changes_of, is_at, changes_at}
use Rattle.cv_core.specs.Versioned.{spare_at}
use Rattle.cv_core.specs.declared.change.Change.{Change}
use Rattle.cv_core.proofs.ChangesAt.{at-append, write_at, write_elsewhere, write_nowhere}

gone_few : (table index : ℕ) (x : Index) (old new : Option Doc) → length (gone table index x old new) ≤ 1
gone_few table index x None new = omega arith
gone_few table index x (Some d) new = go (has_key x (doc_key x d) new)
  where
    go : (b : Bool) → length {A = Change} (cond b [] (record { table = table; index = index; key = doc_key x d; version = None } ∷ [])) ≤ 1
    go true = omega arith
    go false = omega arith

put_few : (table index : ℕ) (x : Index) (n : ℕ) (new : Option Doc) → length (put table index x n new) ≤ 1
put_few table index x n None = omega arith
put_few table index x n (Some d) = omega arith

module _ (schema : Schema) (table index : ℕ) where
  write_few : (n : ℕ) (w : Write) → length (changes_at table index (write_changes schema n w)) ≤ 2
  write_few n w = go (index_at schema table index) refl
    where
      none : (cs : List Change) → cs ≡ [] → length cs ≤ 2
      none cs e = let zero_long : length cs ≡ 0 = ap length e in omega (arith, zero_long)

      go : (o : Option Index) → index_at schema table index ≡ o → length (changes_at table index (write_changes schema n w)) ≤ 2
      go None at = none (changes_at table index (write_changes schema n w)) (write_nowhere schema table index n w at)
      go (Some x) at = by_test (w.id.table == table)
          (λ q. let e = ap length (write_at schema table index x n w at (eqb-true w.id.table table q)) ∙ length-append (gone table index x w.old w.new) (put table index x n w.new) in
          let g = gone_few table index x w.old w.new in let p = put_few table index x n w.new in omega (arith, e, g, p))
          (λ q. none (changes_at table index (write_changes schema n w)) (write_elsewhere schema table index n w (λ t. let f : true ≡ false = sym (eq-eqb w.id.table table t) ∙ q in cc)))

  pub writes_few : (n : ℕ) (ws : List Write) → length (changes_at table index (changes_of schema n ws)) ≤ 2 * length ws
  writes_few n [] = omega arith
  writes_few n (w ∷ ws) =
      let a = changes_at table index (write_changes schema n w) in
      let b = changes_at table index (changes_of schema (next_version n w.new) ws) in
      let e = ap length (at-append table index (write_changes schema n w) (changes_of schema (next_version n w.new) ws)) ∙ length-append a b in
      let f = write_few n w in let g = writes_few (next_version n w.new) ws in
      omega (arith, e, f, g)

-- where an index has changes at all, it has room for so many
some_room : (table index each : ℕ) (tables : List (List IndexRows)) (cs : List Change) → AllByRecursion (λ c. each ≤ spare_at c.table c.index tables) cs
    → (changes_at table index cs ≡ []) ⊎ (each ≤ spare_at table index tables)
some_room table index each tables [] h = inl refl
some_room table index each tables (c ∷ cs) h = go (is_at table index c) refl (some_room table index each tables cs h.1)
  where
    go : (b : Bool) → is_at table index c ≡ b → (changes_at table index cs ≡ []) ⊎ (each ≤ spare_at table index tables)
        → (cond b (c ∷ changes_at table index cs) (changes_at table index cs) ≡ []) ⊎ (each ≤ spare_at table index tables)
    go true q ih =
        let parts = and_parts (c.table == table) (c.index == index) q in
        inr (subst (λ (i : ℕ). each ≤ spare_at table i tables) (eqb-true c.index index parts.1)
        (subst (λ (t : ℕ). each ≤ spare_at t c.index tables) (eqb-true c.table table parts.0) h.0))
    go false q ih = ih

pub room_at : (schema : Schema) (table index n each : ℕ) (tables : List (List IndexRows)) (ws : List Write) → 2 * length ws ≤ each
    → AllByRecursion (λ c. each ≤ spare_at c.table c.index tables) (changes_of schema n ws) → length (changes_at table index (changes_of schema n ws)) ≤ spare_at table index tables
room_at schema table index n each tables ws l h = go (some_room table index each tables (changes_of schema n ws) h)
  where
    go : (changes_at table index (changes_of schema n ws) ≡ []) ⊎ (each ≤ spare_at table index tables) → length (changes_at table index (changes_of schema n ws)) ≤ spare_at table index tables
    go (inl e) = let none : length (changes_at table index (changes_of schema n ws)) ≡ 0 = ap length e in omega (arith, none)
    go (inr r) = let few = writes_few schema table index n ws in omega (arith, few, r, l)
