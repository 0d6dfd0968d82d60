-- The entries of an index: their order, and where a new one goes.
use Rattle.std.specs.Prelude.{◌≡◌, ℕ, ◌<◌, true, cond, List, [], ◌∷◌, MatchOption}
use Rattle.std.specs.Ordering.{nat_cmp, is_lt, ordering_then}
use Rattle.std.specs.declared.cmp.Ordering.{Ordering}
use Rattle.cv_values.specs.Order.{text_cmp}
use Rattle.cv_docs.specs.declared.entry.IndexEntry.{IndexEntry}

-- by key, and entries of one key by timestamp
abbrev pub entry_cmp : IndexEntry → IndexEntry → Ordering
entry_cmp x y = ordering_then (text_cmp x.key y.key) (nat_cmp x.ts y.ts)

-- x is before each of the list
abbrev pub AllAfter : IndexEntry → List IndexEntry → Type 0
AllAfter x [] = Unit {0}
AllAfter x (y ∷ ys) = (is_lt (entry_cmp x y) ≡ true) × AllAfter x ys

-- each entry is before all that follow it
abbrev pub IsInOrder : List IndexEntry → Type 0
IsInOrder [] = Unit {0}
IsInOrder (x ∷ xs) = AllAfter x xs × IsInOrder xs

-- each entry of this key has an earlier timestamp
abbrev pub AllEarlier : List ℕ → ℕ → List IndexEntry → Type 0
AllEarlier k ts [] = Unit {0}
AllEarlier k ts (x ∷ xs) = (x.key ≡ k → x.ts < ts) × AllEarlier k ts xs

-- each entry has an earlier timestamp
abbrev pub AllBefore : ℕ → List IndexEntry → Type 0
AllBefore ts [] = Unit {0}
AllBefore ts (x ∷ xs) = (x.ts < ts) × AllBefore ts xs

-- the list with e before the first entry whose key is above its own
abbrev pub inserted : IndexEntry → List IndexEntry → List IndexEntry
inserted e [] = e ∷ []
inserted e (x ∷ xs) = cond (is_lt (text_cmp e.key x.key)) (e ∷ x ∷ xs) (x ∷ inserted e xs)

-- each version number is below n
abbrev pub AreKnown : ℕ → List IndexEntry → Type 0
AreKnown n [] = Unit {0}
AreKnown n (x ∷ xs) = MatchOption x.version (Unit {0}) (λ v. v < n) × AreKnown n xs
