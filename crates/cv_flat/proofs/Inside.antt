-- The entries between two places, and those in an interval.
use Rattle.std.proofs.Common.{◌≡◌, ℕ, suc, ◌-◌, Bool, true, false, not, ◌&&◌, ◌||◌, nat_le, max, cond, List, [], ◌∷◌, take, drop, refl, sym, ap, ◌∙◌, arith}
use Rattle.std.specs.List.{slice_range}
use Rattle.std.specs.Ordering.{is_lt, is_ge}
use Rattle.std.specs.declared.cmp.Ordering.{Ordering}
use Rattle.std.specs.declared.cmp.Ordering.TheVariants.{Less, Equal, Greater}
use Rattle.std.proofs.lemmas.Map.Lookups.{exact_bytes}
use Rattle.cv_values.specs.Order.{text_cmp}
use Rattle.cv_keys.specs.KeyBytes.{is_between}
use Rattle.cv_keys.specs.declared.interval.Interval.{Interval}
use Rattle.cv_docs.specs.Entries.{IsInOrder, AllAfter, entry_cmp}
use Rattle.cv_docs.specs.Rows.{counts, has_entry, newest}
use Rattle.cv_docs.specs.declared.entry.IndexEntry.{IndexEntry}
use Rattle.cv_flat.specs.Parts.{passing, entries_in}
use Rattle.cv_flat.proofs.Front.{Leads, Falls, NonePass, none_behind, lower_falls}
use Rattle.std.proofs.lemmas.Bool.{and_right}

-- in a list in order, the part from the first key that isn't below lo up to the first that isn't below hi
module _ (i : Interval) where
  abbrev low : IndexEntry → Bool
  low e = is_lt (text_cmp e.key i.lo)

  abbrev under : IndexEntry → Bool
  under e = is_lt (text_cmp e.key i.hi)

  abbrev inside : IndexEntry → Bool
  inside e = is_between e.key i.lo i.hi

  none_in : (xs : List IndexEntry) → NonePass under xs → entries_in i xs ≡ []
  none_in [] h = refl
  none_in (x ∷ xs) h = rw (h.0, and_right (is_ge (text_cmp x.key i.lo)) false refl) (none_in xs h.1)

  ge_from : (o : Ordering) → is_lt o ≡ false → is_ge o ≡ true
  ge_from Less e = cc
  ge_from Equal e = refl
  ge_from Greater e = refl

  not_ge : (o : Ordering) → is_lt o ≡ true → is_ge o ≡ false
  not_ge Less e = refl
  not_ge Equal e = cc
  not_ge Greater e = cc

  outside_low : (x : IndexEntry) → low x ≡ true → inside x ≡ false
  outside_low x e = rw (not_ge (text_cmp x.key i.lo) e) refl

  outside_high : (x : IndexEntry) → under x ≡ false → inside x ≡ false
  outside_high x e = rw (e, and_right (is_ge (text_cmp x.key i.lo)) false refl) refl

  within : (x : IndexEntry) → low x ≡ false → under x ≡ true → inside x ≡ true
  within x e f = rw (ge_from (text_cmp x.key i.lo) e, f) refl

  skipped : (x : IndexEntry) (xs : List IndexEntry) → inside x ≡ false → entries_in i (x ∷ xs) ≡ entries_in i xs
  skipped x xs e = rw e refl

  found : (x : IndexEntry) (xs : List IndexEntry) → inside x ≡ true → entries_in i (x ∷ xs) ≡ x ∷ entries_in i xs
  found x xs e = rw e refl

  take_at : (b : Bool) (x : IndexEntry) (xs : List IndexEntry) → under x ≡ b → low x ≡ false → Leads under x xs
      → take (passing under xs) xs ≡ entries_in i xs → take (passing under (x ∷ xs)) (x ∷ xs) ≡ entries_in i (x ∷ xs)
  take_at true x xs e n h step = rw (found x xs (within x n e), e) (ap (λ ys. x ∷ ys) step)
  take_at false x xs e n h step = rw (skipped x xs (outside_high x e), e) (sym (none_in xs (none_behind under x xs h e)))

  take_in : (xs : List IndexEntry) → Falls under xs → NonePass low xs → take (passing under xs) xs ≡ entries_in i xs
  take_in [] h n = refl
  take_in (x ∷ xs) h n = take_at (under x) x xs refl n.0 h.0 (take_in xs h.1 n.1)

  whole : (n : ℕ) (xs : List IndexEntry) → slice_range xs 0 (max n 0) ≡ take n xs
  whole n xs = let e : max n 0 - 0 ≡ n = omega arith in ap (λ m. take m xs) e

  shifted : (a b : ℕ) (x : IndexEntry) (xs : List IndexEntry) → slice_range (x ∷ xs) (suc a) (max (suc b) (suc a)) ≡ slice_range xs a (max b a)
  shifted a b x xs = let e : max (suc b) (suc a) - suc a ≡ max b a - a = omega arith in ap (λ m. take m (drop a xs)) e

  nothing : (a : ℕ) (xs : List IndexEntry) → slice_range xs a (max 0 a) ≡ []
  nothing a xs = let e : max 0 a - a ≡ 0 = omega arith in ap (λ m. take m (drop a xs)) e

  low_at : (b : Bool) (x : IndexEntry) (xs : List IndexEntry) → under x ≡ b → low x ≡ true → Leads under x xs
      → slice_range xs (passing low xs) (max (passing under xs) (passing low xs)) ≡ entries_in i xs
      → slice_range (x ∷ xs) (passing low (x ∷ xs)) (max (passing under (x ∷ xs)) (passing low (x ∷ xs))) ≡ entries_in i (x ∷ xs)
  low_at true x xs e l h step = rw (skipped x xs (outside_low x l), l, e) (shifted (passing low xs) (passing under xs) x xs ∙ step)
  low_at false x xs e l h step = rw (skipped x xs (outside_low x l), l, e) (nothing (suc (passing low xs)) (x ∷ xs) ∙ sym (none_in xs (none_behind under x xs h e)))

  slice_at : (b : Bool) (x : IndexEntry) (xs : List IndexEntry) → low x ≡ b → Falls low (x ∷ xs) → Falls under (x ∷ xs)
      → slice_range xs (passing low xs) (max (passing under xs) (passing low xs)) ≡ entries_in i xs
      → slice_range (x ∷ xs) (passing low (x ∷ xs)) (max (passing under (x ∷ xs)) (passing low (x ∷ xs))) ≡ entries_in i (x ∷ xs)
  slice_at true x xs l g h step = low_at (under x) x xs refl l h.0 step
  slice_at false x xs l g h step =
      rw l (whole (passing under (x ∷ xs)) (x ∷ xs) ∙ take_at (under x) x xs refl l h.0 (take_in xs h.1 (none_behind low x xs g.0 l)))

  slice_by : (xs : List IndexEntry) → Falls low xs → Falls under xs → slice_range xs (passing low xs) (max (passing under xs) (passing low xs)) ≡ entries_in i xs
  slice_by [] g h = refl
  slice_by (x ∷ xs) g h = slice_at (low x) x xs refl g h (slice_by xs g.1 h.1)

  pub slice_in : (xs : List IndexEntry) → IsInOrder xs → slice_range xs (passing low xs) (max (passing under xs) (passing low xs)) ≡ entries_in i xs
  slice_in xs h = slice_by xs (lower_falls i.lo xs h) (lower_falls i.hi xs h)

  after_cond : (b : Bool) (x y : IndexEntry) (ys : List IndexEntry) → is_lt (entry_cmp x y) ≡ true → AllAfter x ys → AllAfter x (cond b (y ∷ ys) ys)
  after_cond true x y ys k h = (k, h)
  after_cond false x y ys k h = h

  after_in : (x : IndexEntry) (xs : List IndexEntry) → AllAfter x xs → AllAfter x (entries_in i xs)
  after_in x [] h = tt
  after_in x (y ∷ ys) h = after_cond (inside y) x y (entries_in i ys) h.0 (after_in x ys h.1)

  order_cond : (b : Bool) (x : IndexEntry) (xs : List IndexEntry) → AllAfter x xs → IsInOrder xs → IsInOrder (cond b (x ∷ xs) xs)
  order_cond true x xs k h = (k, h)
  order_cond false x xs k h = h

  pub in_order_in : (xs : List IndexEntry) → IsInOrder xs → IsInOrder (entries_in i xs)
  in_order_in [] h = tt
  in_order_in (x ∷ xs) h = order_cond (inside x) x (entries_in i xs) (after_in x xs h.0) (in_order_in xs h.1)

  module _ (ts : ℕ) where
    -- an entry outside isn't one of a key inside
    other_at : (o : Ordering) (k : List ℕ) (x : IndexEntry) → text_cmp x.key k ≡ o → is_between k i.lo i.hi ≡ true → inside x ≡ false → counts ts k x ≡ false
    other_at Less k x e m n = rw e refl
    other_at Greater k x e m n = rw e refl
    other_at Equal k x e m n = let f : true ≡ false = sym m ∙ ap (λ q. is_between q i.lo i.hi) (sym (exact_bytes x.key k e)) ∙ n in cc

    has_at : (b : Bool) (k : List ℕ) (x : IndexEntry) (xs : List IndexEntry) → inside x ≡ b → is_between k i.lo i.hi ≡ true
        → has_entry k ts (entries_in i xs) ≡ has_entry k ts xs → has_entry k ts (entries_in i (x ∷ xs)) ≡ has_entry k ts (x ∷ xs)
    has_at true k x xs e m step = rw (found x xs e) (ap (λ b. counts ts k x || b) step)
    has_at false k x xs e m step = rw (skipped x xs e, other_at (text_cmp x.key k) k x refl m e) step

    has_in : (k : List ℕ) (xs : List IndexEntry) → is_between k i.lo i.hi ≡ true → has_entry k ts (entries_in i xs) ≡ has_entry k ts xs
    has_in k [] m = refl
    has_in k (x ∷ xs) m = has_at (inside x) k x xs refl m (has_in k xs m)

    keep_true : (b : Bool) (x : IndexEntry) (xs : List IndexEntry) → inside x ≡ true → cond b (x ∷ entries_in i xs) (entries_in i xs) ≡ entries_in i (cond b (x ∷ xs) xs)
    keep_true true x xs e = rw (found x xs e) refl
    keep_true false x xs e = refl

    keep_false : (b : Bool) (x : IndexEntry) (xs : List IndexEntry) → inside x ≡ false → entries_in i xs ≡ entries_in i (cond b (x ∷ xs) xs)
    keep_false true x xs e = rw (skipped x xs e) refl
    keep_false false x xs e = refl

    newest_at : (b : Bool) (x : IndexEntry) (xs : List IndexEntry) → inside x ≡ b → newest ts (entries_in i xs) ≡ entries_in i (newest ts xs)
        → newest ts (entries_in i (x ∷ xs)) ≡ entries_in i (newest ts (x ∷ xs))
    newest_at true x xs e step =
        rw (found x xs e, has_in x.key xs e, step) (keep_true (nat_le x.ts ts && not (has_entry x.key ts xs)) x (newest ts xs) e)
    newest_at false x xs e step =
        rw (skipped x xs e, step) (keep_false (nat_le x.ts ts && not (has_entry x.key ts xs)) x (newest ts xs) e)

    pub newest_in : (xs : List IndexEntry) → newest ts (entries_in i xs) ≡ entries_in i (newest ts xs)
    newest_in [] = refl
    newest_in (x ∷ xs) = newest_at (inside x) x xs refl (newest_in xs)
