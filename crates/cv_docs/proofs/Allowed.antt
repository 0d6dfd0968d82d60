-- Which inserts are allowed, and that versions stay known.
use Rattle.std.proofs.Common.{◌≡◌, ℕ, ◌+◌, ◌<◌, ◌≤◌, Bool, true, false, cond, List, [], ◌∷◌, Option, Some, None, MatchOption, sym, arith}
use Rattle.std.specs.Ordering.{is_lt}
use Rattle.cv_values.specs.Order.{text_cmp}
use Rattle.cv_docs.specs.Entries.{AllEarlier, AllBefore, AreKnown, inserted}
use Rattle.cv_docs.specs.History.{LaterInsertsAreAllowed, VersionsStayKnown}
use Rattle.cv_docs.specs.declared.entry.IndexEntry.{IndexEntry}

pub earlier_from_before : (k : List ℕ) (ts : ℕ) (es : List IndexEntry) → AllBefore ts es → AllEarlier k ts es
earlier_from_before k ts [] h = tt
earlier_from_before k ts (x ∷ xs) h = ((λ e. h.0), earlier_from_before k ts xs h.1)

earlier_at : (b : Bool) (k : List ℕ) (ts : ℕ) (e x : IndexEntry) (xs : List IndexEntry) → (e.key ≡ k → e.ts < ts) → AllEarlier k ts (x ∷ xs) → AllEarlier k ts (inserted e xs)
    → AllEarlier k ts (cond b (e ∷ x ∷ xs) (x ∷ inserted e xs))
earlier_at true k ts e x xs n h step = (n, h)
earlier_at false k ts e x xs n h step = (h.0, step)

pub earlier_inserted : (k : List ℕ) (ts : ℕ) (e : IndexEntry) (es : List IndexEntry) → (e.key ≡ k → e.ts < ts) → AllEarlier k ts es → AllEarlier k ts (inserted e es)
earlier_inserted k ts e [] n h = (n, tt)
earlier_inserted k ts e (x ∷ xs) n h = earlier_at (is_lt (text_cmp e.key x.key)) k ts e x xs n h (earlier_inserted k ts e xs n h.1)

before_next : (ts : ℕ) (es : List IndexEntry) → AllBefore ts es → AllBefore (ts + 1) es
before_next ts [] h = tt
before_next ts (x ∷ xs) h = (omega (arith, h.0), before_next ts xs h.1)

before_at : (b : Bool) (ts : ℕ) (e x : IndexEntry) (xs : List IndexEntry) → e.ts < ts → AllBefore ts (x ∷ xs) → AllBefore ts (inserted e xs) → AllBefore ts (cond b (e ∷ x ∷ xs) (x ∷ inserted e xs))
before_at true ts e x xs n h step = (n, h)
before_at false ts e x xs n h step = (h.0, step)

pub before_inserted : (ts : ℕ) (e : IndexEntry) (es : List IndexEntry) → e.ts < ts → AllBefore ts es → AllBefore ts (inserted e es)
before_inserted ts e [] n h = (n, tt)
before_inserted ts e (x ∷ xs) n h = before_at (is_lt (text_cmp e.key x.key)) ts e x xs n h (before_inserted ts e xs n h.1)

pub later_allowed : LaterInsertsAreAllowed
later_allowed e es k h = (
  earlier_from_before e.key e.ts es h,
  (λ n. earlier_inserted k e.ts e es (λ s. absurd (n (sym s))) (earlier_from_before k e.ts es h)),
  before_inserted (e.ts + 1) e es (omega arith) (before_next e.ts es h),
)

known_more : (n m : ℕ) (v : Option ℕ) → n ≤ m → MatchOption v (Unit {0}) (λ k. k < n) → MatchOption v (Unit {0}) (λ k. k < m)
known_more n m None l h = tt
known_more n m (Some k) l h = omega (arith, h)

known_at : (b : Bool) (m : ℕ) (e x : IndexEntry) (xs : List IndexEntry) → AreKnown m (e ∷ []) → AreKnown m (x ∷ []) → AreKnown m xs → AreKnown m (inserted e xs) → AreKnown m (cond b (e ∷ x ∷ xs) (x ∷ inserted e xs))
known_at true m e x xs k j h step = (k.0, (j.0, h))
known_at false m e x xs k j h step = (j.0, step)

all_more : (n m : ℕ) (es : List IndexEntry) → n ≤ m → AreKnown n es → AreKnown m es
all_more n m [] l h = tt
all_more n m (x ∷ xs) l h = (known_more n m x.version l h.0, all_more n m xs l h.1)

pub stay_known : VersionsStayKnown
stay_known e [] n m l h k = k
stay_known e (x ∷ xs) n m l h k =
    known_at (is_lt (text_cmp e.key x.key)) m e x xs k (known_more n m x.version l h.0, tt) (all_more n m xs l h.1) (stay_known e xs n m l h.1 k)
