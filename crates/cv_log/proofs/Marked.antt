-- The first touch of marks, entry by entry.
use Rattle.std.proofs.Common.{◌≡◌, ℕ, zero, suc, ◌+◌, ◌<◌, ◌≤◌, ◌-◌, min, Bor, MatchOption, Bool, true, false, cond, List, [], ◌∷◌, ◌++◌, map, length, drop, get_or, Option, Some, None, refl, sym, ap, ◌∙◌, add-one, arith}
use Rattle.std.proofs.Math.Seq.{drop-cons}
use Rattle.std.specs.Prelude.{IfSome, option_map, slice_get}
use Rattle.std.specs.List.{position_from, HoldsAt}
use Rattle.std.proofs.lemmas.Option.{slice_get-map, slice_get_past, slice_get_read}
use Rattle.std.specs.Option.{option_or}
use Rattle.cv_keys.specs.declared.interval.Interval.{Interval}
use Rattle.cv_keys.specs.declared.schema.Schema.{Schema}
use Rattle.cv_reads.specs.FirstTouch.{is_marked, first_interval, first_touch_from}
use Rattle.cv_reads.specs.declared.mark.Mark.{Mark}
use Rattle.fn_tree.specs.History.{Entry, History}
use Rattle.cv_store.specs.Marks.{entry_marks, marks_by_entry}
use Rattle.cv_store.specs.Tails.{joined}
use Rattle.cv_store.specs.TouchLaws.{conflict_of, mark_touch}
use Rattle.cv_store.specs.declared.conflict.Conflict.{Conflict}
use Rattle.cv_log.specs.Logs.{marks_in}
use Rattle.cv_log.specs.declared.touch.Marked.{Marked}

-- ---- the number of an interval is below their count

position_below : {A : Type 0} (t : A → Bool) (n : ℕ) (xs : List A) (r : ℕ) → position_from t n xs ≡ Some r → r < n + length xs
position_below t n [] r e = cc
position_below t n (x ∷ xs) r e = go (t x) (position_below t (n + 1) xs r) e
  where
    go : (b : Bool) → (position_from t (n + 1) xs ≡ Some r → r < (n + 1) + length xs) → cond b (Some n) (position_from t (n + 1) xs) ≡ Some r → r < n + suc (length xs)
    go true ih q = let same : n ≡ r = cc in omega (arith, same)
    go false ih q = omega (arith, ih q)

pub range_below : (k : ℕ) (ms : List Mark) (reads : List Interval) (at range : ℕ) → first_touch_from k ms reads ≡ Some (at, range) → range < length reads
range_below k [] reads at range e = cc
range_below k (m ∷ ms) reads at range e = go (first_interval m reads) refl (range_below (k + 1) ms reads at range) e
  where
    go : (x : Option ℕ) → first_interval m reads ≡ x → (first_touch_from (k + 1) ms reads ≡ Some (at, range) → range < length reads)
        → ◌≡◌ {A = Option (ℕ × ℕ)} (elim x [ Some r ↦ Some (k, r) | None ↦ first_touch_from (k + 1) ms reads ]) (Some (at, range)) → range < length reads
    go (Some r) f ih q =
        let pairs : ◌≡◌ {A = ℕ × ℕ} (k, r) (at, range) = cc in
        let same : r ≡ range = ap (λ (p : ℕ × ℕ). p.1) pairs in
        omega (arith, position_below (is_marked m) 0 reads r f, same)
    go None f ih q = ih q

-- ---- marks of entries one after the other

touch_append : (reads : List Interval) (a b : List Mark) → mark_touch (a ++ b) reads ≡ option_or (mark_touch a reads) (mark_touch b reads)
touch_append reads [] b = refl
touch_append reads (m ∷ a) b = go (first_interval m reads) (touch_append reads a b)
  where
    go : (x : Option ℕ) → mark_touch (a ++ b) reads ≡ option_or (mark_touch a reads) (mark_touch b reads)
        → (elim x [ Some range ↦ Some (conflict_of m range) | None ↦ mark_touch (a ++ b) reads ])
        ≡ option_or (elim x [ Some range ↦ Some (conflict_of m range) | None ↦ mark_touch a reads ]) (mark_touch b reads)
    go None ih = ih
    go (Some range) ih = refl

pub touch_from : (reads : List Interval) (ms : List Marked) (at : ℕ) (x : Marked) → at < length ms → x ≡ get_or ms at x
    → mark_touch (joined (marks_in (drop at ms))) reads ≡ option_or (mark_touch x.marks.items reads) (mark_touch (joined (marks_in (drop (at + 1) ms))) reads)
touch_from reads ms at x h e =
    let place : drop at ms ≡ x ∷ drop (at + 1) ms = drop-cons ms at x h ∙ ap (λ y. y ∷ drop (suc at) ms) (sym e) ∙ ap (λ (n : ℕ). x ∷ drop n ms) (sym (add-one at)) in
    ap (λ l. mark_touch (joined (marks_in l)) reads) place ∙ touch_append reads x.marks.items (joined (marks_in (drop (at + 1) ms)))

-- ---- the marks of the entries after a timestamp

pub marks_drop : (schema : Schema) (n s ts : ℕ) (h : History) → ts ≡ n + s → drop s (marks_by_entry schema n h) ≡ marks_by_entry schema ts (drop s h)
marks_drop schema n zero ts h p = let same : n ≡ ts = omega (arith, p) in ap (λ (k : ℕ). marks_by_entry schema k h) same
marks_drop schema n (suc s) ts [] p = refl
marks_drop schema n (suc s) ts (e ∷ h) p = marks_drop schema (n + 1) s ts h (omega (arith, p))

pub drop_marks : (s : ℕ) (ms : List Marked) → marks_in (drop s ms) ≡ drop s (marks_in ms)
drop_marks zero ms = refl
drop_marks (suc s) [] = refl
drop_marks (suc s) (m ∷ ms) = drop_marks s ms

drop_past : {A : Type 0} (s n : ℕ) (xs : List A) → n ≡ min (length xs) s → drop n xs ≡ drop s xs
drop_past zero n xs p = let same : n ≡ 0 = omega (arith, p) in ap (λ (k : ℕ). drop k xs) same
drop_past (suc s) n [] p = let same : n ≡ 0 = omega (arith, p) in ap (λ (k : ℕ). drop k []) same
drop_past (suc s) zero (x ∷ xs) p = absurd (omega (arith, p))
drop_past (suc s) (suc n) (x ∷ xs) p = drop_past s n xs (omega (arith, p))

pub drop_least : {A : Type 0} (s n : ℕ) (xs : List A) → n ≡ min (length xs) s → drop n xs ≡ drop s xs
drop_least s n xs p = drop_past s n xs p

-- ---- what stands at a place

pub looked_up : {B : Type 0} (f : Marked → B) (ms : List Marked) (at : ℕ) (r : Option (Bor Marked))
    → MatchOption r (length ms ≤ at) (λ x. (at < length ms) × HoldsAt (λ y. x.now ≡ y) ms at) → IfSome r (λ x. x.now ≡ get_or ms at x.now)
    → option_map (λ m. f m.now) r ≡ slice_get (map f ms) at
looked_up f ms at None h k = sym (slice_get-map f ms at ∙ ap (option_map f) (slice_get_past ms at h))
looked_up f ms at (Some x) h k = sym (slice_get-map f ms at ∙ ap (option_map f) (slice_get_read ms (length ms) at x.now refl h.0 k))
