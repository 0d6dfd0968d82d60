-- The rows of entries, one after the other.
use Rattle.std.proofs.Common.{◌≡◌, ℕ, zero, suc, ◌+◌, ◌<◌, Bool, true, false, not, ◌&&◌, nat_le, cond, List, [], ◌∷◌, ◌++◌, length, drop, reverse, Option, Some, None, slice_get, refl, sym, ap, ◌∙◌, append-nil, append_assoc, add-one, get_or}
use Rattle.std.proofs.Math.Seq.{drop-cons}
use Rattle.std.specs.List.{cons_option}
use Rattle.std.proofs.lemmas.List.{reverse-append}
use Rattle.cv_values.specs.declared.doc.Doc.{Doc}
use Rattle.cv_docs.specs.Cut.{cut, Taken, ending}
use Rattle.cv_docs.specs.Entries.{IsInOrder}
use Rattle.cv_docs.specs.Rows.{has_entry, newest, doc_of, docs_of}
use Rattle.cv_docs.specs.declared.entry.IndexEntry.{IndexEntry}
use Rattle.cv_docs.proofs.Behind.{next_tells}
use Rattle.cv_flat.specs.Parts.{row_of, rows_of}

module _ (docs : List Doc) (ts : ℕ) where
  first_at : (b : Bool) (x : IndexEntry) (xs : List IndexEntry) → docs_of docs (cond b (x ∷ xs) xs) ≡ cons_option (cond b (doc_of docs x) None) (docs_of docs xs)
  first_at true x xs = refl
  first_at false x xs = refl

  -- the rows of a list in order are that of its first entry, if any, and those of the rest
  pub rows_cons : (x : IndexEntry) (xs : List IndexEntry) → IsInOrder (x ∷ xs) → rows_of docs ts (x ∷ xs) ≡ cons_option (row_of docs ts x (slice_get xs 0)) (rows_of docs ts xs)
  rows_cons x xs h = rw (sym (next_tells ts x xs h)) (first_at (nat_le x.ts ts && not (has_entry x.key ts xs)) x (newest ts xs))

cut_none : (rows size : ℕ) → cut rows size [] ≡ []
cut_none zero size = refl
cut_none (suc rows) size = refl

-- where nothing is to come, what has been taken is all
pub ended : (t : Taken) → ending t [] ≡ t.docs
ended t = rw (cut_none t.rows t.size) (append-nil t.docs)

-- the part of a list from a place on
pub from_place : (es : List IndexEntry) (at : ℕ) (x : IndexEntry) → at < length es → x ≡ get_or es at x → drop at es ≡ x ∷ drop (at + 1) es
from_place es at x h e = drop-cons es at x h ∙ ap (λ y. y ∷ drop (suc at) es) (sym e) ∙ ap (λ n. x ∷ drop n es) (sym (add-one at))

next_at : (es : List IndexEntry) (n : ℕ) → slice_get (drop n es) 0 ≡ slice_get es n
next_at [] zero = refl
next_at [] (suc n) = refl
next_at (x ∷ xs) zero = refl
next_at (x ∷ xs) (suc n) = next_at xs n

pub in_order_from : (n : ℕ) (es : List IndexEntry) → IsInOrder es → IsInOrder (drop n es)
in_order_from zero es h = h
in_order_from (suc n) [] h = tt
in_order_from (suc n) (x ∷ xs) h = in_order_from n xs h.1

module _ (docs : List Doc) (ts : ℕ) where
  -- the rows from a place on are that of its entry, if any, and those behind it
  pub rows_from : (es : List IndexEntry) (at : ℕ) (x : IndexEntry) → IsInOrder es → at < length es → x ≡ get_or es at x
      → rows_of docs ts (drop at es) ≡ cons_option (row_of docs ts x (slice_get es (at + 1))) (rows_of docs ts (drop (at + 1) es))
  rows_from es at x h l e =
      let place : drop at es ≡ x ∷ drop (at + 1) es = from_place es at x l e in
      let order : IsInOrder (x ∷ drop (at + 1) es) = rw place at (in_order_from at es h) in
      ap (rows_of docs ts) place ∙ rows_cons docs ts x (drop (at + 1) es) order ∙ ap (λ o. cons_option (row_of docs ts x o) (rows_of docs ts (drop (at + 1) es))) (next_at es (at + 1))

  -- the same against the order, and more behind them
  pub turned_cons : (o : Option Doc) (ys ds : List Doc) → reverse (cons_option o ys) ++ ds ≡ reverse ys ++ cons_option o ds
  turned_cons None ys ds = refl
  turned_cons (Some d) ys ds = ap (λ zs. zs ++ ds) (reverse-append (d ∷ []) ys) ∙ append_assoc (reverse ys) (d ∷ []) ds

  pub rows_back : (es : List IndexEntry) (at : ℕ) (x : IndexEntry) (ds : List Doc) → IsInOrder es → at < length es → x ≡ get_or es at x
      → reverse (rows_of docs ts (drop (at + 1) es)) ++ cons_option (row_of docs ts x (slice_get es (at + 1))) ds ≡ reverse (rows_of docs ts (drop at es)) ++ ds
  rows_back es at x ds h l e =
      sym (ap (λ ys. reverse ys ++ ds) (rows_from es at x h l e) ∙ turned_cons (row_of docs ts x (slice_get es (at + 1))) (rows_of docs ts (drop (at + 1) es)) ds)

  -- the rows before a place come last against the order
  pub before : (n : ℕ) (es : List IndexEntry) → IsInOrder es → (rest : List Doc) × (reverse (rows_of docs ts (drop n es)) ++ rest ≡ reverse (rows_of docs ts es))
  before zero es h = ([], append-nil (reverse (rows_of docs ts es)))
  before (suc n) [] h = ([], refl)
  before (suc n) (x ∷ xs) h =
      let o = row_of docs ts x (slice_get xs 0) in
      let r = before n xs h.1 in (
        r.0 ++ cons_option o [],
        sym (append_assoc (reverse (rows_of docs ts (drop n xs))) r.0 (cons_option o []))
            ∙ ap (λ ys. ys ++ cons_option o []) r.1
            ∙ sym (turned_cons o (rows_of docs ts xs) [])
            ∙ append-nil (reverse (cons_option o (rows_of docs ts xs)))
            ∙ ap reverse (sym (rows_cons docs ts x xs h)),
      )
