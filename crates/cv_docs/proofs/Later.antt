-- Scans after later inserts.
use Rattle.std.proofs.Common.{◌≡◌, ℕ, zero, suc, ◌<◌, Bool, true, false, nat_le, cond, List, [], ◌∷◌, ◌++◌, length, map, filter, reverse, Option, Some, None, MatchOption, option_and_then, slice_get, refl, ap, ◌∙◌, arith, le-leb}
use Rattle.std.proofs.lemmas.Bool.{lt-leb}
use Rattle.std.specs.List.{cons_option, filter_map}
use Rattle.cv_values.specs.declared.doc.Doc.{Doc}
use Rattle.cv_keys.specs.KeyBytes.{is_between}
use Rattle.cv_keys.specs.declared.interval.Interval.{Interval}
use Rattle.cv_docs.specs.Entries.{IsInOrder, AreKnown, inserted}
use Rattle.cv_docs.specs.Rows.{newest, doc_of, docs_of, rows_at}
use Rattle.cv_docs.specs.Cut.{cut}
use Rattle.cv_docs.specs.History.{with_all, AreAllowed, AllLater, Current, current, set_all, rows_in, RowsGoByNewest, LaterInsertsChangeNothing, InsertsSetTheirKey, NewestGoByInserts, InsertsKeepOrder}
use Rattle.cv_docs.specs.declared.entry.IndexEntry.{IndexEntry}
use Rattle.cv_docs.proofs.Newest.{newest-later, sets_key, stays_in_order}

newest-all : (ts : ℕ) (later es : List IndexEntry) → AllLater ts later → newest ts (with_all later es) ≡ newest ts es
newest-all ts [] es h = refl
newest-all ts (x ∷ xs) es h = newest-all ts xs (inserted x es) h.1 ∙ newest-later ts x (lt-leb x.ts ts h.0) es

known-cond : (n : ℕ) (b : Bool) (xs ys : List IndexEntry) → AreKnown n xs → AreKnown n ys → AreKnown n (cond b xs ys)
known-cond n true xs ys h k = h
known-cond n false xs ys h k = k

known-newest : (n ts : ℕ) (es : List IndexEntry) → AreKnown n es → AreKnown n (newest ts es)
known-newest n ts [] h = tt
known-newest n ts (x ∷ xs) h = known-cond n _ (x ∷ newest ts xs) (newest ts xs) (h.0, known-newest n ts xs h.1) (known-newest n ts xs h.1)

known-filter : (n : ℕ) (p : IndexEntry → Bool) (es : List IndexEntry) → AreKnown n es → AreKnown n (filter p es)
known-filter n p [] h = tt
known-filter n p (x ∷ xs) h = known-cond n (p x) (x ∷ filter p xs) (filter p xs) (h.0, known-filter n p xs h.1) (known-filter n p xs h.1)

get-more : (docs more : List Doc) (n : ℕ) → n < length docs → slice_get (docs ++ more) n ≡ slice_get docs n
get-more [] more n h = absurd (omega arith)
get-more (d ∷ ds) more zero h = refl
get-more (d ∷ ds) more (suc n) h = get-more ds more n (omega arith)

doc-more : (docs more : List Doc) (v : Option ℕ) → MatchOption v (Unit {0}) (λ n. n < length docs) → option_and_then (λ n. slice_get (docs ++ more) n) v ≡ option_and_then (λ n. slice_get docs n) v
doc-more docs more None h = refl
doc-more docs more (Some n) h = get-more docs more n h

docs-more : (docs more : List Doc) (es : List IndexEntry) → AreKnown (length docs) es → docs_of (docs ++ more) es ≡ docs_of docs es
docs-more docs more [] h = refl
docs-more docs more (x ∷ xs) h = ap (λ o. cons_option o (docs_of (docs ++ more) xs)) (doc-more docs more x.version h.0) ∙ ap (cons_option (doc_of docs x)) (docs-more docs more xs h.1)

rows-more : (es later : List IndexEntry) (docs more : List Doc) (ts : ℕ) (i : Interval) → AreKnown (length docs) es → AllLater ts later → rows_at (docs ++ more) ts i (with_all later es) ≡ rows_at docs ts i es
rows-more es later docs more ts i k h =
    ap (λ xs. docs_of (docs ++ more) (filter (λ e. is_between e.key i.lo i.hi) xs)) (newest-all ts later es h)
    ∙ docs-more docs more (filter (λ e. is_between e.key i.lo i.hi) (newest ts es)) (known-filter (length docs) _ (newest ts es) (known-newest (length docs) ts es k))

pub later_inserts : LaterInsertsChangeNothing
later_inserts es later docs more ts i desc rows size k h = ap (λ ds. cut rows size (cond desc (reverse ds) ds)) (rows-more es later docs more ts i k h)

pub inserts_set : InsertsSetTheirKey
inserts_set e es ts h k t = sets_key ts e (le-leb e.ts ts t) es h

by_inserts_at : (b : Bool) (ts : ℕ) (x : IndexEntry) (xs es : List IndexEntry) → nat_le x.ts ts ≡ b → IsInOrder es
    → current ts (with_all xs (inserted x es)) ≡ set_all (filter (λ e. nat_le e.ts ts) xs) (current ts (inserted x es))
    → current ts (with_all xs (inserted x es)) ≡ set_all (cond b (x ∷ filter (λ e. nat_le e.ts ts) xs) (filter (λ e. nat_le e.ts ts) xs)) (current ts es)
by_inserts_at true ts x xs es t h step = step ∙ ap (set_all (filter (λ e. nat_le e.ts ts) xs)) (sets_key ts x t es h)
by_inserts_at false ts x xs es t h step = step ∙ ap (λ n. set_all (filter (λ e. nat_le e.ts ts) xs) (map (λ e. (e.key, e.version)) n)) (newest-later ts x t es)

by_inserts : (ts : ℕ) (xs es : List IndexEntry) → IsInOrder es → AreAllowed xs es → current ts (with_all xs es) ≡ set_all (filter (λ e. nat_le e.ts ts) xs) (current ts es)
by_inserts ts [] es h a = refl
by_inserts ts (x ∷ xs) es h a = by_inserts_at (nat_le x.ts ts) ts x xs es refl h (by_inserts ts xs (inserted x es) (stays_in_order x es h a.0) a.1)

pub newest_by_inserts : NewestGoByInserts
newest_by_inserts xs ts a = by_inserts ts xs [] tt a

pub inserts_keep_order : InsertsKeepOrder
inserts_keep_order e es h t = stays_in_order e es h t

module _ (docs : List Doc) (i : Interval) where
  abbrev pair : IndexEntry → List ℕ × Option ℕ
  pair e = (e.key, e.version)

  abbrev shown : List ℕ × Option ℕ → Option Doc
  shown p = option_and_then (λ n. slice_get docs n) p.1

  rows_at_pair : (b : Bool) (x : IndexEntry) (xs : List IndexEntry) (ps : Current) → docs_of docs xs ≡ filter_map shown ps → docs_of docs (cond b (x ∷ xs) xs) ≡ filter_map shown (cond b (pair x ∷ ps) ps)
  rows_at_pair true x xs ps h = ap (cons_option (doc_of docs x)) h
  rows_at_pair false x xs ps h = h

  rows_pairs : (xs : List IndexEntry) → docs_of docs (filter (λ e. is_between e.key i.lo i.hi) xs) ≡ rows_in docs i (map pair xs)
  rows_pairs [] = refl
  rows_pairs (x ∷ xs) = rows_at_pair (is_between x.key i.lo i.hi) x (filter (λ e. is_between e.key i.lo i.hi) xs) (filter (λ p. is_between p.0 i.lo i.hi) (map pair xs)) (rows_pairs xs)

pub rows_by_newest : RowsGoByNewest
rows_by_newest docs ts i es = rows_pairs docs i (newest ts es)
