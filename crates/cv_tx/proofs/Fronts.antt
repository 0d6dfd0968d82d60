-- Writes laid over the first rows alone: what stands in front is the same, and little is lost there.
use Rattle.std.proofs.Common.{◌≡◌, ℕ, ◌+◌, ◌≤◌, Bool, true, false, not, ◌&&◌, cond, List, [], ◌∷◌, ◌++◌, length, Option, Some, None, refl, sym, ap, ◌∙◌, arith, length-append}
use Rattle.std.specs.Prelude.{filter, IfSome, ◌==◌}
use Rattle.std.proofs.lemmas.Bool.{cond_both, cond-true, cond-false}
use Rattle.std.proofs.lemmas.List.Elements.{filter-append}
use Rattle.cv_values.specs.declared.doc.Doc.{Doc}
use Rattle.cv_values.specs.declared.ids.DocId.{DocId}
use Rattle.cv_keys.specs.Places.{PlaceInterval}
use Rattle.cv_keys.specs.declared.schema.Index.{Index}
use Rattle.cv_keys.specs.declared.write.Write.{Write}
use Rattle.fn_tree.specs.Documents.{Docs, same_id, doc_of, without_id, with_doc}
use Rattle.fn_tree.specs.Rows.{rows_by, is_within}
use Rattle.fn_tree.specs.Scan.{rows_size, in_direction, found}
use Rattle.fn_tree.proofs.DocumentLemmas.{same_id_is}
use Rattle.fn_tree.proofs.RowsUnderPuts.{rows-filter}
use Rattle.fn_tree.proofs.TrueEntries.{Once, once_with}
use Rattle.cv_tx.specs.Merged.{goes_behind, put_among, with_row, with_write, with_writes}
use Rattle.cv_tx.specs.Pending.{HasDistinctIds, AreTrue}
use Rattle.cv_tx.specs.Plans.{rows_of, size_of_rows, removed_rows, removed_size}
use Rattle.cv_tx.proofs.Turned.{direction-filter, turned_rows, turned-write}

-- ---- what stands in front

-- x goes among these, and not behind all of them
abbrev fits : (Doc → Doc → Bool) → Doc → List Doc → Bool
fits behind x [] = false
fits behind x (y ∷ ys) = cond (behind x y) (fits behind x ys) true

among-front : (behind : Doc → Doc → Bool) (x : Doc) (G H : List Doc) → put_among behind x (G ++ H) ≡ cond (fits behind x G) (put_among behind x G ++ H) (G ++ put_among behind x H)
among-front behind x [] H = refl
among-front behind x (y ∷ G) H = go (behind x y) (fits behind x G) (among-front behind x G H)
  where
    go : (b c : Bool) → put_among behind x (G ++ H) ≡ cond c (put_among behind x G ++ H) (G ++ put_among behind x H)
        → cond b (y ∷ put_among behind x (G ++ H)) (x ∷ y ∷ (G ++ H))
        ≡ cond (cond b c true) (cond b (y ∷ put_among behind x G) (x ∷ y ∷ G) ++ H) (y ∷ (G ++ put_among behind x H))
    go true true ih = ap (λ l. y ∷ l) ih
    go true false ih = ap (λ l. y ∷ l) ih
    go false c ih = refl

module _ (index : Index) (i : PlaceInterval) (desc : Bool) where
  abbrev front_row : Option Doc → List Doc → List Doc
  front_row None G = G
  front_row (Some d) G = cond (is_within index i d && fits (goes_behind index desc) d G) (put_among (goes_behind index desc) d G) G

  abbrev front_write : Write → List Doc → List Doc
  front_write w F = cond (w.id.table == i.table) (front_row w.new (without_id w.id F)) F

  -- what stands in front after the writes, whatever follows these rows
  abbrev pub front_writes : List Write → List Doc → List Doc
  front_writes [] F = F
  front_writes (w ∷ ws) F = front_writes ws (front_write w F)

  row_front : (new : Option Doc) (G H : List Doc) → (T : List Doc) × (with_row index i desc new (G ++ H) ≡ front_row new G ++ T)
  row_front None G H = (H, refl)
  row_front (Some d) G H = go (is_within index i d) (fits behind d G) refl
    where
      behind : Doc → Doc → Bool
      behind = goes_behind index desc

      go : (p q : Bool) → fits behind d G ≡ q → (T : List Doc) × (cond p (put_among behind d (G ++ H)) (G ++ H) ≡ cond (p && q) (put_among behind d G) G ++ T)
      go false q e = (H, refl)
      go true true e = (H, among-front behind d G H ∙ cond-true (fits behind d G) _ _ e)
      go true false e = (put_among behind d H, among-front behind d G H ∙ cond-false (fits behind d G) _ _ e)

  write_front : (w : Write) (F T : List Doc) → (U : List Doc) × (with_write index i desc w (F ++ T) ≡ front_write w F ++ U)
  write_front w F T = go (w.id.table == i.table)
    where
      r : (U : List Doc) × (with_row index i desc w.new (without_id w.id F ++ without_id w.id T) ≡ front_row w.new (without_id w.id F) ++ U)
      r = row_front w.new (without_id w.id F) (without_id w.id T)

      go : (b : Bool) → (U : List Doc) × (cond b (with_row index i desc w.new (without_id w.id (F ++ T))) (F ++ T) ≡ cond b (front_row w.new (without_id w.id F)) F ++ U)
      go true = (r.0, ap (with_row index i desc w.new) (filter-append (λ d. not (same_id w.id d.id)) F T) ∙ r.1)
      go false = (T, refl)

  pub writes_front : (ws : List Write) (F T : List Doc) → (U : List Doc) × (with_writes index i desc ws (F ++ T) ≡ front_writes ws F ++ U)
  writes_front [] F T = (T, refl)
  writes_front (w ∷ ws) F T =
      let r = write_front w F T in
      let s = writes_front ws (front_write w F) r.0 in
      (s.0, ap (with_writes index i desc ws) r.1 ∙ s.1)

-- ---- how much is lost there

pub size-append : (ds es : List Doc) → rows_size (ds ++ es) ≡ rows_size ds + rows_size es
size-append [] es = omega arith
size-append (d ∷ ds) es = let h = size-append ds es in omega (arith, h)

-- at least as many rows, and as much
record Covers (xs ys : List Doc) : Type 0 where
  rows : length xs ≤ length ys
  size : rows_size xs ≤ rows_size ys

among_covers : (behind : Doc → Doc → Bool) (x : Doc) (G : List Doc) → Covers G (put_among behind x G)
among_covers behind x [] = record { rows = omega arith; size = omega arith }
among_covers behind x (y ∷ G) =
    let h = among_covers behind x G in
    cond_both (behind x y) (y ∷ put_among behind x G) (x ∷ y ∷ G) (Covers (y ∷ G))
    (λ _. record { rows = omega (arith, h.rows); size = omega (arith, h.size) }) (λ _. record { rows = omega arith; size = omega arith })

row_covers : (index : Index) (i : PlaceInterval) (desc : Bool) (new : Option Doc) (G : List Doc) → Covers G (front_row index i desc new G)
row_covers index i desc None G = record { rows = omega arith; size = omega arith }
row_covers index i desc (Some d) G =
    cond_both (is_within index i d && fits (goes_behind index desc) d G) (put_among (goes_behind index desc) d G) G (Covers G)
    (λ _. among_covers (goes_behind index desc) d G) (λ _. record { rows = omega arith; size = omega arith })

-- a list is what a test keeps and what it leaves
record Parts (xs kept left : List Doc) : Type 0 where
  rows : length xs ≡ length kept + length left
  size : rows_size xs ≡ rows_size kept + rows_size left

parts : (f : Doc → Bool) (xs : List Doc) → Parts xs (filter (λ d. not (f d)) xs) (filter f xs)
parts f [] = record { rows = refl; size = refl }
parts f (x ∷ xs) = go (f x) (parts f xs)
  where
    go : (b : Bool) → Parts xs (filter (λ d. not (f d)) xs) (filter f xs)
        → Parts (x ∷ xs) (cond (not b) (x ∷ filter (λ d. not (f d)) xs) (filter (λ d. not (f d)) xs)) (cond b (x ∷ filter f xs) (filter f xs))
    go true h = let r = h.rows in let s = h.size in record { rows = omega (arith, r); size = omega (arith, s) }
    go false h = let r = h.rows in let s = h.size in record { rows = omega (arith, r); size = omega (arith, s) }

front_covers : (xs ys : List Doc) → Covers xs (xs ++ ys)
front_covers xs ys =
    let r = length-append xs ys in
    let s = size-append xs ys in
    record { rows = omega (arith, r); size = omega (arith, s) }

to_once : (ds : Docs) → HasDistinctIds ds → Once ds
to_once [] h = tt
to_once (d ∷ ds) h = (h.0, to_once ds h.1)

from_once : (ds : Docs) → Once ds → HasDistinctIds ds
from_once [] h = tt
from_once (d ∷ ds) h = (h.0, from_once ds h.1)

pub distinct_with : (w : Write) (ds : Docs) → IfSome w.new (λ d. d.id ≡ w.id) → HasDistinctIds ds → HasDistinctIds (with_doc w.id w.new ds)
distinct_with w ds is h = from_once (with_doc w.id w.new ds) (once_with w.id w.new ds is (to_once ds h))

-- the documents of an id are the one that it has
only_one : (id : DocId) (ds : Docs) → HasDistinctIds ds → filter (λ d. same_id id d.id) ds ≡ found (doc_of id ds)
only_one id [] h = refl
only_one id (d ∷ ds) h = go (same_id id d.id) refl (only_one id ds h.1)
  where
    go : (b : Bool) → same_id id d.id ≡ b → filter (λ x. same_id id x.id) ds ≡ found (doc_of id ds)
        → cond b (d ∷ filter (λ x. same_id id x.id) ds) (filter (λ x. same_id id x.id) ds) ≡ found (cond b (Some d) (doc_of id ds))
    go true s ih = ap (λ l. d ∷ l) (ih ∙ ap found (ap (λ j. doc_of j ds) (same_id_is id d.id s) ∙ h.0))
    go false s ih = ih

record IsLight (xs : List Doc) (old : Option Doc) : Type 0 where
  rows : length xs ≤ rows_of old
  size : rows_size xs ≤ size_of_rows old

light_found : (index : Index) (i : PlaceInterval) (desc : Bool) (old : Option Doc) → IsLight (turned_rows index i desc (found old)) old
light_found index i false None = record { rows = omega arith; size = omega arith }
light_found index i true None = record { rows = omega arith; size = omega arith }
light_found index i desc (Some d) = go desc (is_within index i d)
  where
    go : (e b : Bool) → IsLight (in_direction e (cond b (d ∷ []) [])) (Some d)
    go false true = record { rows = omega arith; size = omega arith }
    go true true = record { rows = omega arith; size = omega arith }
    go false false = record { rows = omega arith; size = omega arith }
    go true false = record { rows = omega arith; size = omega arith }

-- at most so many rows, of such a size, are lost from one list to the other
pub record Loses (F G : List Doc) (rows size : ℕ) : Type 0 where
  pub in_rows : length F ≤ length G + rows
  pub in_size : rows_size F ≤ rows_size G + size

module _ (index : Index) (i : PlaceInterval) (desc : Bool) where
  -- of the rows of an id there are no more than its document
  rows_of_id : (id : DocId) (ds : Docs) → HasDistinctIds ds → filter (λ d. same_id id d.id) (turned_rows index i desc ds) ≡ turned_rows index i desc (found (doc_of id ds))
  rows_of_id id ds h =
      sym (direction-filter desc (λ d. same_id id d.id) (rows_by index (is_within index i) ds))
      ∙ ap (in_direction desc) (sym (rows-filter index (is_within index i) (λ d. same_id id d.id) ds))
      ∙ ap (turned_rows index i desc) (only_one id ds h)

  -- in front no more is lost than the write's old document
  write_loses : (w : Write) (ds : Docs) (F T : List Doc) → HasDistinctIds ds → w.old ≡ doc_of w.id ds → turned_rows index i desc ds ≡ F ++ T
      → Loses F (front_write index i desc w F) (cond (w.id.table == i.table) (rows_of w.old) 0) (cond (w.id.table == i.table) (size_of_rows w.old) 0)
  write_loses w ds F T h k e = go (w.id.table == i.table)
    where
      same : Doc → Bool
      same d = same_id w.id d.id

      both : filter (λ d. same_id w.id d.id) F ++ filter (λ d. same_id w.id d.id) T ≡ turned_rows index i desc (found w.old)
      both = sym (filter-append (λ d. same_id w.id d.id) F T) ∙ ap (filter (λ d. same_id w.id d.id)) (sym e) ∙ rows_of_id w.id ds h
          ∙ ap (λ o. turned_rows index i desc (found o)) (sym k)

      gone : IsLight (filter (λ d. same_id w.id d.id) F) w.old
      gone =
          let c = front_covers (filter (λ d. same_id w.id d.id) F) (filter (λ d. same_id w.id d.id) T) in
          let l = light_found index i desc w.old in
          let r = ap length both in
          let s = ap rows_size both in
          record { rows = omega (arith, c.rows, l.rows, r); size = omega (arith, c.size, l.size, s) }

      go : (b : Bool) → Loses F (cond b (front_row index i desc w.new (without_id w.id F)) F) (cond b (rows_of w.old) 0) (cond b (size_of_rows w.old) 0)
      go true =
          let p = parts (λ d. same_id w.id d.id) F in
          let c = row_covers index i desc w.new (without_id w.id F) in
          record { in_rows = omega (arith, p.rows, c.rows, gone.rows); in_size = omega (arith, p.size, c.size, gone.size) }
      go false = record { in_rows = omega arith; in_size = omega arith }

  pub writes_lose : (ws : List Write) (ds : Docs) (F T : List Doc) → HasDistinctIds ds → AreTrue ds ws → turned_rows index i desc ds ≡ F ++ T
      → Loses F (front_writes index i desc ws F) (removed_rows i.table ws) (removed_size i.table ws)
  writes_lose [] ds F T h k e = record { in_rows = omega arith; in_size = omega arith }
  writes_lose (w ∷ ws) ds F T h k e =
      let r = write_front index i desc w F T in
      let one = write_loses w ds F T h k.0 e in
      let more = writes_lose ws (with_doc w.id w.new ds) (front_write index i desc w F) r.0 (distinct_with w ds k.1 h) k.2
      (turned-write index i desc w ds k.1 ∙ ap (with_write index i desc w) e ∙ r.1) in
      record { in_rows = omega (arith, one.in_rows, more.in_rows); in_size = omega (arith, one.in_size, more.in_size) }
