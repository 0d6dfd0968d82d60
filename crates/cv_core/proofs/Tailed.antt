-- How many entries a tail takes, one after the other.
use Rattle.std.proofs.Common.{◌≡◌, ℕ, zero, suc, ◌+◌, ◌-◌, ◌<◌, ◌≤◌, Bool, true, false, nat_le, cond, min, List, [], ◌∷◌, ◌++◌, length, drop, take, refl, sym, ap, ◌∙◌, add-one, arith}
use Rattle.std.specs.Prelude.{slice_get}
use Rattle.std.proofs.lemmas.Bool.{le-leb, lt-leb}
use Rattle.std.proofs.lemmas.List.{drop_all}
use Rattle.cv_keys.specs.declared.schema.Schema.{Schema}
use Rattle.cv_reads.specs.declared.mark.Mark.{Mark}
use Rattle.fn_tree.specs.History.{History}
use Rattle.cv_store.specs.Marks.{marks_by_entry}
use Rattle.cv_store.specs.Tails.{fitting, entries_taken, joined, tail_from}
use Rattle.cv_store.specs.declared.tail.Tail.{Tail}
use Rattle.cv_log.specs.Logs.{or_no_marks, marks_at}
use Rattle.cv_core.specs.Tailing.{tail_in}

next_marks : (ms : List (List Mark)) (k : ℕ) → k < length ms → drop k ms ≡ or_no_marks (slice_get ms k) ∷ drop (suc k) ms
next_marks [] k h = absurd (omega (arith, h))
next_marks (m ∷ ms) zero h = refl
next_marks (m ∷ ms) (suc k) h = next_marks ms k (omega (arith, h))

-- the marks of the next entry, and those of the ones behind it
pub marks_next : (ms : List (List Mark)) (k : ℕ) → k < length ms → drop k ms ≡ marks_at (k + 1) ms ∷ drop (k + 1) ms
marks_next ms k h =
    next_marks ms k h
    ∙ ap (λ (n : ℕ). marks_at n ms ∷ drop (suc k) ms) (sym (add-one k))
    ∙ ap (λ (n : ℕ). marks_at (k + 1) ms ∷ drop n ms) (sym (add-one k))

pub fitting_next : (ms : List (List Mark)) (k n left room : ℕ) → k < length ms → left ≡ suc n
    → fitting left room (drop k ms) ≡ cond (nat_le (length (marks_at (k + 1) ms)) room) (suc (fitting n (room - length (marks_at (k + 1) ms)) (drop (k + 1) ms))) 0
fitting_next ms k n left room h e = ap (λ (i : ℕ). fitting i room (drop k ms)) e ∙ ap (fitting (suc n) room) (marks_next ms k h)

-- an entry more fits, or doesn't
module _ (ms : List (List Mark)) (k left room n : ℕ) (found : List Mark) (h : k < length ms) (e : left ≡ suc n) (is : found ≡ marks_at (k + 1) ms) where
  by_next : (b : Bool) → nat_le (length found) room ≡ b → fitting left room (drop k ms) ≡ cond b (suc (fitting n (room - length found) (drop (k + 1) ms))) 0
  by_next b q =
      fitting_next ms k n left room h e
      ∙ ap (λ (m : List Mark). cond (nat_le (length m) room) (suc (fitting n (room - length m) (drop (k + 1) ms))) 0) (sym is)
      ∙ ap (λ c. cond c (suc (fitting n (room - length found) (drop (k + 1) ms))) 0) q

  pub fitting_more : (next : ℕ) → next ≡ k + 1 → length found ≤ room → fitting left room (drop k ms) ≡ suc (fitting n (room - length found) (drop next ms))
  fitting_more next p l =
      by_next true (le-leb (length found) room l) ∙ ap (λ (i : ℕ). suc (fitting n (room - length found) (drop i ms))) (sym p)

  pub fitting_full : room < length found → fitting left room (drop k ms) ≡ 0
  fitting_full l = by_next false (lt-leb (length found) room l)

fitting_none : (n room : ℕ) → fitting n room [] ≡ 0
fitting_none zero room = refl
fitting_none (suc n) room = refl

pub fitting_end : (ms : List (List Mark)) (k n room : ℕ) → length ms ≤ k → fitting n room (drop k ms) ≡ 0
fitting_end ms k n room h = ap (fitting n room) (drop_all k ms h) ∙ fitting_none n room

pub fitting_zero : (n room : ℕ) (ms : List (List Mark)) → n ≡ 0 → fitting n room ms ≡ 0
fitting_zero n room ms e = ap (λ (i : ℕ). fitting i room ms) e

-- so many fit where no more do
pub fitting_out : (taken all more : ℕ) → all ≡ taken + more → more ≡ 0 → taken ≡ all
fitting_out taken all more e z = omega (arith, e, z)

pub moved : (taken more : ℕ) → taken + suc more ≡ taken + 1 + more
moved taken more = omega arith

pub fitting_within : (n room : ℕ) (ms : List (List Mark)) → fitting n room ms ≤ length ms
fitting_within zero room ms = omega arith
fitting_within (suc n) room [] = omega arith
fitting_within (suc n) room (m ∷ ms) = go (nat_le (length m) room) (fitting_within n (room - length m) ms)
  where
    go : (b : Bool) → fitting n (room - length m) ms ≤ length ms → cond b (suc (fitting n (room - length m) ms)) 0 ≤ suc (length ms)
    go true ih = omega (arith, ih)
    go false ih = omega arith

pub joined_next : (ms : List (List Mark)) (k n left : ℕ) → k < length ms → left ≡ suc n → joined (take left (drop k ms)) ≡ marks_at (k + 1) ms ++ joined (take n (drop (k + 1) ms))
joined_next ms k n left h e = ap (λ (i : ℕ). joined (take i (drop k ms))) e ∙ ap (λ l. joined (take (suc n) l)) (marks_next ms k h)

-- the marks of the entries after a timestamp
pub marks_drop : (schema : Schema) (n s ts : ℕ) (h : History) → ts ≡ n + s → drop s (marks_by_entry schema n h) ≡ marks_by_entry schema ts (drop s h)
marks_drop schema n zero ts h p = let same : n ≡ ts = omega (arith, p) in ap (λ (k : ℕ). marks_by_entry schema k h) same
marks_drop schema n (suc s) ts [] p = refl
marks_drop schema n (suc s) ts (e ∷ h) p = marks_drop schema (n + 1) s ts h (omega (arith, p))

marks_count : (schema : Schema) (n : ℕ) (h : History) → length (marks_by_entry schema n h) ≡ length h
marks_count schema n [] = refl
marks_count schema n (e ∷ h) = ap suc (marks_count schema (n + 1) h)

-- the tail of a log by its marks
pub tail_is : (schema : Schema) (h : History) (from : ℕ) (marks : List (List Mark)) → marks ≡ marks_by_entry schema 0 h → tail_in marks from ≡ tail_from schema h from
tail_is schema h from marks e =
    ap (λ ms. tail_in ms from) e
    ∙ ap (λ (n : ℕ). tail_with (drop from (marks_by_entry schema 0 h)) n) (marks_count schema 0 h)
    ∙ ap (λ later. tail_with later (length h)) (marks_drop schema 0 from from h (omega arith))
  where
    tail_with : List (List Mark) → ℕ → Tail
    tail_with later n = record { from = from; to = min (from + entries_taken later) n; end = n; marks = joined (take (entries_taken later) later) }

-- from the end on nothing comes
pub tail_past : (marks : List (List Mark)) (from : ℕ) → length marks ≤ from → tail_in marks from ≡ record { from = from; to = length marks; end = length marks; marks = [] }
tail_past marks from h =
    ap (λ (l : List (List Mark)). record { from = from; to = min (from + entries_taken l) (length marks); end = length marks; marks = joined (take (entries_taken l) l) }) (drop_all from marks h)
    ∙ ap (λ (n : ℕ). record { from = from; to = n; end = length marks; marks = [] }) low
  where
    low : min (from + 0) (length marks) ≡ length marks
    low = omega (arith, h)
