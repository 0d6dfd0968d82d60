-- The first touch goes by marks.
use Rattle.std.proofs.Common.{◌≡◌, ℕ, suc, ◌+◌, Bool, false, true, List, [], ◌∷◌, ◌++◌, drop, Option, Some, None, refl, sym, ap, ◌∙◌, arith}
use Rattle.std.specs.Prelude.{slice_get}
use Rattle.std.specs.Option.{option_or}
use Rattle.cv_values.specs.declared.doc.Doc.{Doc}
use Rattle.cv_keys.specs.Documents.{place, indexes_of}
use Rattle.cv_keys.specs.KeyBytes.{place_key}
use Rattle.cv_keys.specs.declared.interval.Interval.{Interval}
use Rattle.cv_keys.specs.declared.schema.Index.{Index}
use Rattle.cv_keys.specs.declared.schema.Schema.{Schema}
use Rattle.cv_keys.specs.declared.write.Write.{Write}
use Rattle.cv_reads.specs.FirstTouch.{first_interval, first_touch_from, first_touch as first_mark}
use Rattle.cv_reads.specs.declared.mark.Mark.{Mark}
use Rattle.fn_tree.specs.History.{Entry}
use Rattle.cv_store.specs.FirstTouch.{by_key, index_touch, doc_touch, write_touch, writes_touch, entries_touch, first_touch}
use Rattle.cv_store.specs.Marks.{index_marks, doc_marks, write_marks, writes_marks, entry_marks, marks_by_entry}
use Rattle.cv_store.specs.Tails.{joined}
use Rattle.cv_store.specs.TouchLaws.{conflict_of, mark_touch, EntriesGoByMarks, HistoriesGoByMarks, AnswerTells, AnswersTell}
use Rattle.cv_store.specs.declared.conflict.Conflict.{Conflict}

module _ (reads : List Interval) where
  touch-append : (a b : List Mark) → mark_touch (a ++ b) reads ≡ option_or (mark_touch a reads) (mark_touch b reads)
  touch-append [] b = refl
  touch-append (m ∷ a) b = go (first_interval m reads) (touch-append a b)
    where
      go : (x : Option ℕ) → mark_touch (a ++ b) reads ≡ option_or (mark_touch a reads) (mark_touch b reads)
          → (elim x [ Some range ↦ Some (conflict_of m range) | None ↦ mark_touch (a ++ b) reads ])
          ≡ option_or (elim x [ Some range ↦ Some (conflict_of m range) | None ↦ mark_touch a reads ]) (mark_touch b reads)
      go None ih = ih
      go (Some range) ih = refl

  index_by_marks : (ts write : ℕ) (fresh : Bool) (table : ℕ) (d : Doc) (k : ℕ) (xs : List Index)
      → index_touch by_key reads ts write fresh table d k xs ≡ mark_touch (index_marks ts write fresh table d k xs) reads
  index_by_marks ts write fresh table d k [] = refl
  index_by_marks ts write fresh table d k (x ∷ xs) =
      go (first_interval m reads) (index_by_marks ts write fresh table d (k + 1) xs)
    where
      m : Mark
      m = record { ts = ts; write = write; fresh = fresh; table = table; index = k; key = place_key (place d x) }

      go : (o : Option ℕ) → index_touch by_key reads ts write fresh table d (k + 1) xs ≡ mark_touch (index_marks ts write fresh table d (k + 1) xs) reads
          → ◌≡◌ {A = Option Conflict}
          (elim o [
            | Some range ↦ Some (record { ts = ts; write = write; fresh = fresh; table = table; index = k; range = range })
            | None ↦ index_touch by_key reads ts write fresh table d (k + 1) xs
          ])
          (elim o [ Some range ↦ Some (conflict_of m range) | None ↦ mark_touch (index_marks ts write fresh table d (k + 1) xs) reads ])
      go None ih = ih
      go (Some range) ih = refl

  module _ (schema : Schema) where
    doc_by_marks : (ts write : ℕ) (fresh : Bool) (table : ℕ) (d : Option Doc) → doc_touch schema by_key reads ts write fresh table d ≡ mark_touch (doc_marks schema ts write fresh table d) reads
    doc_by_marks ts write fresh table None = refl
    doc_by_marks ts write fresh table (Some d) = index_by_marks ts write fresh table d 0 (indexes_of schema table)

    write_by_marks : (ts n : ℕ) (w : Write) → write_touch schema by_key reads ts n w ≡ mark_touch (write_marks schema ts n w) reads
    write_by_marks ts n w =
        ap (λ o. option_or o (doc_touch schema by_key reads ts n true w.id.table w.new)) (doc_by_marks ts n false w.id.table w.old)
        ∙ ap (option_or (mark_touch (doc_marks schema ts n false w.id.table w.old) reads)) (doc_by_marks ts n true w.id.table w.new)
        ∙ sym (touch-append (doc_marks schema ts n false w.id.table w.old) (doc_marks schema ts n true w.id.table w.new))

    writes_by_marks : (ts n : ℕ) (ws : List Write) → writes_touch schema by_key reads ts n ws ≡ mark_touch (writes_marks schema ts n ws) reads
    writes_by_marks ts n [] = refl
    writes_by_marks ts n (w ∷ ws) =
        ap (λ o. option_or o (writes_touch schema by_key reads ts (n + 1) ws)) (write_by_marks ts n w)
        ∙ ap (option_or (mark_touch (write_marks schema ts n w) reads)) (writes_by_marks ts (n + 1) ws)
        ∙ sym (touch-append (write_marks schema ts n w) (writes_marks schema ts (n + 1) ws))

    entries_by_marks : (ts : ℕ) (h : List Entry) → entries_touch schema by_key reads ts h ≡ mark_touch (joined (marks_by_entry schema ts h)) reads
    entries_by_marks ts [] = refl
    entries_by_marks ts (e ∷ h) =
        ap (λ o. option_or o (entries_touch schema by_key reads (ts + 1) h)) (writes_by_marks (ts + 1) 0 e.writes)
        ∙ ap (option_or (mark_touch (entry_marks schema (ts + 1) e) reads)) (entries_by_marks (ts + 1) h)
        ∙ sym (touch-append (entry_marks schema (ts + 1) e) (joined (marks_by_entry schema (ts + 1) h)))

pub entries_go_by_marks : EntriesGoByMarks
entries_go_by_marks schema reads ts e = writes_by_marks reads schema ts 0 e.writes

pub histories_go_by_marks : HistoriesGoByMarks
unfolding first_touch
histories_go_by_marks schema reads h s = entries_by_marks reads schema s (drop s h)

-- numbered from k on
abbrev TellsFrom : (k : ℕ) → List Mark → List Interval → Option (ℕ × ℕ) → Type 0
TellsFrom k ms reads None = mark_touch ms reads ≡ None
TellsFrom k ms reads (Some found) = (j : ℕ) × (m : Mark) × (found.0 ≡ k + j) × (slice_get ms j ≡ Some m) × (mark_touch ms reads ≡ Some (conflict_of m found.1))

tells_from : (k : ℕ) (ms : List Mark) (reads : List Interval) → TellsFrom k ms reads (first_touch_from k ms reads)
tells_from k [] reads = refl
tells_from k (m ∷ ms) reads = go (first_interval m reads) refl (tells_from (k + 1) ms reads)
  where
    later : (x : Option (ℕ × ℕ)) → first_interval m reads ≡ None → TellsFrom (k + 1) ms reads x → TellsFrom k (m ∷ ms) reads x
    later None e h = ap (λ o. let r : Option Conflict = elim o [ Some range ↦ Some (conflict_of m range) | None ↦ mark_touch ms reads ] in r) e ∙ h
    later (Some found) e h = (
      suc h.0,
      h.1,
      (let n = h.2 in omega (arith, n)),
      h.3,
      ap (λ o. let r : Option Conflict = elim o [ Some range ↦ Some (conflict_of m range) | None ↦ mark_touch ms reads ] in r) e ∙ h.4,
    )

    go : (x : Option ℕ) → first_interval m reads ≡ x → TellsFrom (k + 1) ms reads (first_touch_from (k + 1) ms reads)
        → TellsFrom k (m ∷ ms) reads (elim x [ Some range ↦ Some (k, range) | None ↦ first_touch_from (k + 1) ms reads ])
    go None e ih = later (first_touch_from (k + 1) ms reads) e ih
    go (Some range) e ih = (
      0,
      m,
      omega arith,
      refl,
      ap (λ o. let r : Option Conflict = elim o [ Some n ↦ Some (conflict_of m n) | None ↦ mark_touch ms reads ] in r) e,
    )

from_start : (ms : List Mark) (reads : List Interval) (x : Option (ℕ × ℕ)) → TellsFrom 0 ms reads x → AnswerTells ms reads x
from_start ms reads None h = h
from_start ms reads (Some found) h =
    let n : h.0 ≡ found.0 = (let e = h.2 in omega (arith, e)) in
    (h.1, ap (slice_get ms) (sym n) ∙ h.3, h.4)

pub answers_tell : AnswersTell
answers_tell ms reads = from_start ms reads (first_mark ms reads) (tells_from 0 ms reads)
