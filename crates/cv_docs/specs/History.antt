-- What a list of inserts does to the rows at a timestamp.
use Rattle.std.specs.Prelude.{◌≡◌, ◌≢◌, ℕ, ◌+◌, ◌<◌, ◌≤◌, Bool, nat_le, Option, option_and_then, slice_get, List, [], ◌∷◌, ◌++◌, map, filter, length}
use Rattle.std.specs.BTreeMap.{insert_entry}
use Rattle.std.specs.List.{filter_map}
use Rattle.cv_values.specs.Order.{text_cmp}
use Rattle.cv_values.specs.declared.doc.Doc.{Doc}
use Rattle.cv_keys.specs.KeyBytes.{is_between}
use Rattle.cv_keys.specs.declared.interval.Interval.{Interval}
use Rattle.cv_docs.specs.Entries.{IsInOrder, AllEarlier, AllBefore, AreKnown, inserted}
use Rattle.cv_docs.specs.Rows.{newest, rows_at}
use Rattle.cv_docs.specs.Cut.{scanned}
use Rattle.cv_docs.specs.declared.entry.IndexEntry.{IndexEntry}

-- the entries after a list of inserts, one after the other
abbrev pub with_all : List IndexEntry → List IndexEntry → List IndexEntry
with_all [] es = es
with_all (x ∷ xs) es = with_all xs (inserted x es)

-- each insert of the list is allowed at its turn
abbrev pub AreAllowed : List IndexEntry → List IndexEntry → Type 0
AreAllowed [] es = Unit {0}
AreAllowed (x ∷ xs) es = AllEarlier x.key x.ts es × AreAllowed xs (inserted x es)

-- each is later than ts
abbrev pub AllLater : ℕ → List IndexEntry → Type 0
AllLater ts [] = Unit {0}
AllLater ts (x ∷ xs) = (ts < x.ts) × AllLater ts xs

-- keys in order, each with its version number or gone
abbrev pub Current : Type 0
Current = List (List ℕ × Option ℕ)

-- each insert of the list sets its key
abbrev pub set_all : List IndexEntry → Current → Current
set_all [] m = m
set_all (x ∷ xs) m = set_all xs (insert_entry text_cmp m x.key x.version)

-- the newest versions up to ts
abbrev pub current : ℕ → List IndexEntry → Current
current ts es = map (λ e. (e.key, e.version)) (newest ts es)

-- the documents of a map of keys that lie in the interval, in key order
abbrev pub rows_in : List Doc → Interval → Current → List Doc
rows_in docs i m = filter_map (λ p. option_and_then (λ n. slice_get docs n) p.1) (filter (λ p. is_between p.0 i.lo i.hi) m)

-- the rows at ts are the documents of the newest versions up to it
abbrev pub RowsGoByNewest : Type 0
RowsGoByNewest = (docs : List Doc) (ts : ℕ) (i : Interval) (es : List IndexEntry) → rows_at docs ts i es ≡ rows_in docs i (current ts es)

-- inserts later than ts, and documents with later numbers, change no scan at ts
abbrev pub LaterInsertsChangeNothing : Type 0
LaterInsertsChangeNothing = (es later : List IndexEntry) (docs more : List Doc) (ts : ℕ) (i : Interval) (desc : Bool) (rows size : ℕ)
    → AreKnown (length docs) es → AllLater ts later
    → scanned (docs ++ more) ts i desc rows size (with_all later es) ≡ scanned docs ts i desc rows size es

-- an insert up to ts sets its key among the newest versions
abbrev pub InsertsSetTheirKey : Type 0
InsertsSetTheirKey = (e : IndexEntry) (es : List IndexEntry) (ts : ℕ)
    → IsInOrder es → AllEarlier e.key e.ts es → e.ts ≤ ts
    → current ts (inserted e es) ≡ insert_entry text_cmp (current ts es) e.key e.version

-- the newest versions up to ts are those that the inserts up to ts set, one after the other
abbrev pub NewestGoByInserts : Type 0
NewestGoByInserts = (xs : List IndexEntry) (ts : ℕ) → AreAllowed xs []
    → current ts (with_all xs []) ≡ set_all (filter (λ e. nat_le e.ts ts) xs) []

-- the list stays in order
abbrev pub InsertsKeepOrder : Type 0
InsertsKeepOrder = (e : IndexEntry) (es : List IndexEntry) → IsInOrder es → AllEarlier e.key e.ts es → IsInOrder (inserted e es)

-- any key may be set at a timestamp that is later than all entries, and then any other key
abbrev pub LaterInsertsAreAllowed : Type 0
LaterInsertsAreAllowed = (e : IndexEntry) (es : List IndexEntry) (k : List ℕ) → AllBefore e.ts es
    → AllEarlier e.key e.ts es × (k ≢ e.key → AllEarlier k e.ts (inserted e es)) × AllBefore (e.ts + 1) (inserted e es)

-- after an insert of a known version, or none, each version is known, and stays so while documents are added
abbrev pub VersionsStayKnown : Type 0
VersionsStayKnown = (e : IndexEntry) (es : List IndexEntry) (n m : ℕ) → n ≤ m → AreKnown n es → AreKnown m (e ∷ []) → AreKnown m (inserted e es)
