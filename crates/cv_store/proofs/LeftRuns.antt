-- Where no mark of a tail touches what a query read, its run stays.
use Rattle.std.proofs.Common.{◌≡◌, ℕ, zero, suc, ◌+◌, ◌≤◌, List, [], ◌∷◌, map, length, take, drop, min, None, refl, sym, ap, ◌∙◌, subst, arith}
use Rattle.std.specs.List.{AllByRecursion}
use Rattle.std.proofs.lemmas.List.{take-append-drop, drop-take, take_min}
use Rattle.cv_values.specs.Value.{Value}
use Rattle.cv_keys.specs.Documents.{indexes_of}
use Rattle.cv_keys.specs.Intervals.{in_bytes}
use Rattle.cv_keys.specs.Places.{PlaceInterval}
use Rattle.cv_keys.specs.declared.interval.Interval.{Interval}
use Rattle.cv_keys.specs.declared.schema.Schema.{Schema}
use Rattle.cv_keys.specs.declared.write.Write.{Write}
use Rattle.cv_reads.specs.FirstTouch.{first_touch as first_mark}
use Rattle.cv_reads.specs.declared.mark.Mark.{Mark}
use Rattle.fn_tree.specs.CommitLaws.{IsUntouched}
use Rattle.fn_tree.specs.History.{Entry, History, IsLegal, docs_after, docs_at, query_start}
use Rattle.fn_tree.specs.Run.{Run, run}
use Rattle.fn_tree.specs.Schemas.{schema_of}
use Rattle.fn_tree.specs.SyntaxTree.{ModuleTree}
use Rattle.fn_tree.proofs.CommitsAreLegal.{answers_stay}
use Rattle.fn_tree.proofs.LegalHistories.{fronts_are_legal}
use Rattle.cv_store.specs.FirstTouch.{first_touch, first_touch_places}
use Rattle.cv_store.specs.Marks.{entry_marks, marks_by_entry}
use Rattle.cv_store.specs.PlaceLaws.{TailsLeaveRuns}
use Rattle.cv_store.specs.Ranges.{DocsInRange, AreInRange}
use Rattle.cv_store.specs.Reads.{EndsInRange}
use Rattle.cv_store.specs.Tails.{entries_taken, joined}
use Rattle.cv_store.specs.TouchLaws.{mark_touch, AnswerTells}
use Rattle.cv_store.proofs.TouchedMarks.{histories_go_by_marks, answers_tell}
use Rattle.cv_store.proofs.TouchedPlaces.{touches_go_by_places, none_is_untouched}

-- ---- fronts of histories

take_less : (a n : ℕ) (h : History) → a ≤ n → take a (take n h) ≡ take a h
take_less zero n h le = refl
take_less (suc a) zero h le = absurd (omega (arith, le))
take_less (suc a) (suc n) [] le = refl
take_less (suc a) (suc n) (e ∷ h) le = ap (λ (l : History). e ∷ l) (take_less a n h (omega (arith, le)))

all_take : {A : Type 0} (P : A → Type 0) (n : ℕ) (xs : List A) → AllByRecursion P xs → AllByRecursion P (take n xs)
all_take P zero xs h = tt
all_take P (suc n) [] h = tt
all_take P (suc n) (x ∷ xs) h = (h.0, all_take P n xs h.1)

legal_take : (m : ModuleTree) (n : ℕ) (h : History) → IsLegal m h → IsLegal m (take n h)
legal_take m n h legal = fronts_are_legal m (take n h) (drop n h) (subst (IsLegal m) (sym (take-append-drop n h)) legal)

range_take : (schema : Schema) (n : ℕ) (h : History) → AreInRange schema h → AreInRange schema (take n h)
range_take schema n h r = all_take (λ (e : Entry). AllByRecursion (λ (w : Write). DocsInRange w.old w.new (indexes_of schema w.id.table)) e.writes) n h r

-- ---- marks of fronts

marks_take : (schema : Schema) (ts n : ℕ) (h : History) → marks_by_entry schema ts (take n h) ≡ take n (marks_by_entry schema ts h)
marks_take schema ts zero h = refl
marks_take schema ts (suc n) [] = refl
marks_take schema ts (suc n) (e ∷ h) = ap (λ ms. entry_marks schema (ts + 1) e ∷ ms) (marks_take schema (ts + 1) n h)

none_told : (ms : List Mark) (reads : List Interval) → first_mark ms reads ≡ None → mark_touch ms reads ≡ None
none_told ms reads e = subst (AnswerTells ms reads) e (answers_tell ms reads)

module _ (schema : Schema) (h : History) (ts : ℕ) where
  abbrev taken : ℕ
  taken = entries_taken (marks_by_entry schema ts (drop ts h))

  -- the touch up to the tail's end is that of its marks
  touch_of_tail : (reads : List Interval)
      → first_touch schema reads (take (ts + taken) h) ts ≡ mark_touch (joined (take taken (marks_by_entry schema ts (drop ts h)))) reads
  touch_of_tail reads =
      histories_go_by_marks schema reads (take (ts + taken) h) ts
      ∙ ap (λ (l : History). mark_touch (joined (marks_by_entry schema ts l)) reads) (drop-take ts taken h)
      ∙ ap (λ ms. mark_touch (joined ms) reads) (marks_take schema ts taken (drop ts h))

-- what nothing touches between two timestamps has the same run at both
run_stays : (m : ModuleTree) (h : History) (udf : List ℕ) (args : List (List ℕ × Value)) (ts to : ℕ) → IsLegal m h → AreInRange (schema_of m.tables) h → ts ≤ to
    → EndsInRange (run m (query_start udf args) (docs_at h ts)).reads
    → first_touch (schema_of m.tables) (map in_bytes (run m (query_start udf args) (docs_at h ts)).reads) (take to h) ts ≡ None
    → run m (query_start udf args) (docs_at h to) ≡ run m (query_start udf args) (docs_at h ts)
run_stays m h udf args ts to legal range le ends none =
    let schema : Schema = schema_of m.tables in
    let reads : List PlaceInterval = (run m (query_start udf args) (docs_at h ts)).reads in
    let same : docs_at (take to h) ts ≡ docs_at h ts = ap (λ (es : History). docs_after es []) (take_less ts to h le) in
    let by_places : first_touch_places schema reads (take to h) ts ≡ None = sym (touches_go_by_places schema reads (take to h) ts ends (range_take schema to h range)) ∙ none in
    let untouched : IsUntouched schema reads (take to h) ts = none_is_untouched schema reads (take to h) ts by_places in
    let stays = answers_stay m (take to h) ts udf args (legal_take m to h legal)
    (subst (λ ds. IsUntouched schema (run m (query_start udf args) ds).reads (take to h) ts) (sym same) untouched) in
    stays ∙ ap (λ ds. run m (query_start udf args) ds) same

pub tails_leave_runs : TailsLeaveRuns
tails_leave_runs m h udf args ts legal range le ends none =
    let schema : Schema = schema_of m.tables in
    let n : ℕ = taken schema h ts in
    let r : Run = run m (query_start udf args) (docs_at h ts) in
    let untouched = touch_of_tail schema h ts (map in_bytes r.reads) ∙ none_told (joined (take n (marks_by_entry schema ts (drop ts h)))) (map in_bytes r.reads) none in
    let cut : take (min (ts + n) (length h)) h ≡ take (ts + n) h = take_min (ts + n) h in
    ap (λ (es : History). run m (query_start udf args) (docs_after es [])) cut
    ∙ run_stays m h udf args ts (ts + n) legal range (omega arith) ends untouched
