-- What an insert does to the newest entries.
use Rattle.std.proofs.Common.{◌≡◌, ℕ, ◌<◌, Bool, true, false, not, ◌&&◌, ◌||◌, nat_le, cond, List, [], ◌∷◌, map, refl, sym, ap, ◌∙◌, Option, arith}
use Rattle.std.proofs.lemmas.Bool.{and_parts, not-true, and_right}
use Rattle.std.specs.BTreeMap.{insert_entry}
use Rattle.std.specs.Ordering.{nat_cmp, is_lt, is_eq}
use Rattle.std.specs.declared.cmp.Ordering.{Ordering}
use Rattle.std.specs.declared.cmp.Ordering.TheVariants.{Less, Equal, Greater}
use Rattle.std.proofs.lemmas.Bool.Decides.{nat_tests}
use Rattle.std.proofs.lemmas.Map.Lookups.{exact_bytes}
use Rattle.cv_values.specs.Order.{text_cmp}
use Rattle.cv_docs.specs.Entries.{entry_cmp, IsInOrder, AllAfter, AllEarlier, inserted}
use Rattle.cv_docs.specs.Rows.{counts, has_entry, newest}
use Rattle.cv_docs.specs.History.{Current}
use Rattle.cv_docs.specs.declared.entry.IndexEntry.{IndexEntry}
use Rattle.cv_docs.proofs.Orders.{entry_total, is_less, turned, AllFrom, AllAbove, from_after, above_from, from_above}

is_below : (m n : ℕ) → m < n → nat_cmp m n ≡ Less
is_below m n h = grind (arith, nat_tests)

module _ (ts : ℕ) where
  pub newest-shown : (x : IndexEntry) (xs : List IndexEntry) → (nat_le x.ts ts && not (has_entry x.key ts xs)) ≡ true → newest ts (x ∷ xs) ≡ x ∷ newest ts xs
  newest-shown x xs e = rw e refl

  pub newest-skipped : (x : IndexEntry) (xs : List IndexEntry) → (nat_le x.ts ts && not (has_entry x.key ts xs)) ≡ false → newest ts (x ∷ xs) ≡ newest ts xs
  newest-skipped x xs e = rw e refl

  absent : (k : List ℕ) (es : List IndexEntry) → AllAbove k es → has_entry k ts es ≡ false
  absent k [] h = refl
  absent k (x ∷ xs) h = let g : text_cmp x.key k ≡ Greater = turned k x.key Less h.0 in rw g (absent k xs h.1)

  module _ (e : IndexEntry) where
    kept_at : (b : Bool) (k : List ℕ) (x : IndexEntry) (xs : List IndexEntry) → counts ts k e ≡ false → has_entry k ts (inserted e xs) ≡ has_entry k ts xs
        → has_entry k ts (cond b (e ∷ x ∷ xs) (x ∷ inserted e xs)) ≡ has_entry k ts (x ∷ xs)
    kept_at true k x xs n h = rw n refl
    kept_at false k x xs n h = ap (λ b. counts ts k x || b) h

    -- an entry of another key, or later than ts, isn't seen
    pub has_entry-kept : (k : List ℕ) (es : List IndexEntry) → counts ts k e ≡ false → has_entry k ts (inserted e es) ≡ has_entry k ts es
    has_entry-kept k [] n = rw n refl
    has_entry-kept k (x ∷ xs) n = kept_at (is_lt (text_cmp e.key x.key)) k x xs n (has_entry-kept k xs n)

    or_true : (b : Bool) → (b || true) ≡ true
    or_true true = refl
    or_true false = refl

    there_at : (b : Bool) (k : List ℕ) (x : IndexEntry) (xs : List IndexEntry) → counts ts k e ≡ true → has_entry k ts (inserted e xs) ≡ true
        → has_entry k ts (cond b (e ∷ x ∷ xs) (x ∷ inserted e xs)) ≡ true
    there_at true k x xs y h = rw y refl
    there_at false k x xs y h = rw h (or_true (counts ts k x))

    has_entry-there : (k : List ℕ) (es : List IndexEntry) → counts ts k e ≡ true → has_entry k ts (inserted e es) ≡ true
    has_entry-there k [] y = rw y refl
    has_entry-there k (x ∷ xs) y = there_at (is_lt (text_cmp e.key x.key)) k x xs y (has_entry-there k xs y)

  module _ (e : IndexEntry) (late : nat_le e.ts ts ≡ false) where
    unseen : (b : Bool) → (b && nat_le e.ts ts) ≡ false
    unseen true = late
    unseen false = refl

    later_at : (b : Bool) (x : IndexEntry) (xs : List IndexEntry) → newest ts (inserted e xs) ≡ newest ts xs
        → newest ts (cond b (e ∷ x ∷ xs) (x ∷ inserted e xs)) ≡ newest ts (x ∷ xs)
    later_at true x xs h = rw late refl
    later_at false x xs h = rw (has_entry-kept e x.key xs (unseen (is_eq (text_cmp e.key x.key))), h) refl

    -- an insert later than ts changes nothing
    pub newest-later : (es : List IndexEntry) → newest ts (inserted e es) ≡ newest ts es
    newest-later [] = rw late refl
    newest-later (x ∷ xs) = later_at (is_lt (text_cmp e.key x.key)) x xs (newest-later xs)

  abbrev pairs : List IndexEntry → Current
  pairs xs = map (λ e. (e.key, e.version)) xs

  or_false : (a b : Bool) → (a || b) ≡ false → (a ≡ false) × (b ≡ false)
  or_false true b e = cc
  or_false false b e = (refl, e)

  -- a key that has no entry up to ts goes before the newest of those from it on
  module _ (k : List ℕ) (v : Option ℕ) where
    first_shown : (x : IndexEntry) (xs : List IndexEntry) (o : Ordering) → text_cmp x.key k ≡ o → is_lt o ≡ false → (is_eq o && true) ≡ false
        → insert_entry text_cmp ((x.key, x.version) ∷ pairs (newest ts xs)) k v ≡ (k, v) ∷ (x.key, x.version) ∷ pairs (newest ts xs)
    first_shown x xs Less e n m = cc
    first_shown x xs Equal e n m = cc
    first_shown x xs Greater e n m = let g : text_cmp k x.key ≡ Less = turned x.key k Greater e in rw g refl

    first_at : (b : Bool) (x : IndexEntry) (xs : List IndexEntry) → (nat_le x.ts ts && not (has_entry x.key ts xs)) ≡ b
        → is_lt (text_cmp x.key k) ≡ false → counts ts k x ≡ false → insert_entry text_cmp (pairs (newest ts xs)) k v ≡ (k, v) ∷ pairs (newest ts xs)
        → insert_entry text_cmp (pairs (newest ts (x ∷ xs))) k v ≡ (k, v) ∷ pairs (newest ts (x ∷ xs))
    first_at true x xs e h n step =
        let le : nat_le x.ts ts ≡ true = (and_parts (nat_le x.ts ts) (not (has_entry x.key ts xs)) e).0 in
        let m : (is_eq (text_cmp x.key k) && true) ≡ false = rw le at n in
        rw (newest-shown x xs e) (first_shown x xs (text_cmp x.key k) refl h m)
    first_at false x xs e h n step = rw (newest-skipped x xs e) step

    goes_first : (es : List IndexEntry) → AllFrom k es → has_entry k ts es ≡ false → insert_entry text_cmp (pairs (newest ts es)) k v ≡ (k, v) ∷ pairs (newest ts es)
    goes_first [] h n = refl
    goes_first (x ∷ xs) h n =
        let no : (counts ts k x ≡ false) × (has_entry k ts xs ≡ false) = or_false (counts ts k x) (has_entry k ts xs) n in
        first_at (nat_le x.ts ts && not (has_entry x.key ts xs)) x xs refl h.0 no.0 (goes_first xs h.1 no.1)

  module _ (e : IndexEntry) (early : nat_le e.ts ts ≡ true) where
    -- the insert goes before x, whose key is above its own
    before : (x : IndexEntry) (xs : List IndexEntry) → AllAbove e.key (x ∷ xs) → pairs (newest ts (e ∷ x ∷ xs)) ≡ insert_entry text_cmp (pairs (newest ts (x ∷ xs))) e.key e.version
    before x xs h =
        let no : has_entry e.key ts (x ∷ xs) ≡ false = absent e.key (x ∷ xs) h in
        let first = goes_first e.key e.version (x ∷ xs) (from_above e.key (x ∷ xs) h) no in
        let here : (nat_le e.ts ts && not (has_entry e.key ts (x ∷ xs))) ≡ true = rw (early, no) refl in
        rw (newest-shown e (x ∷ xs) here) (sym first)

    -- the insert goes behind x, which has its key
    same_at : (b : Bool) (x : IndexEntry) (xs : List IndexEntry) → (nat_le x.ts ts && not (has_entry x.key ts xs)) ≡ b
        → text_cmp e.key x.key ≡ Equal → AllFrom x.key xs
        → pairs (newest ts (inserted e xs)) ≡ insert_entry text_cmp (pairs (newest ts xs)) e.key e.version
        → pairs (newest ts (inserted e xs)) ≡ insert_entry text_cmp (pairs (newest ts (x ∷ xs))) e.key e.version
    same_at true x xs t k h step =
        let same : e.key ≡ x.key = exact_bytes e.key x.key k in
        let no : has_entry x.key ts xs ≡ false = not-true (has_entry x.key ts xs) (and_parts (nat_le x.ts ts) (not (has_entry x.key ts xs)) t).1 in
        let first : insert_entry text_cmp (pairs (newest ts xs)) e.key e.version ≡ (e.key, e.version) ∷ pairs (newest ts xs) = goes_first e.key e.version xs (rw same h) (rw same no) in
        rw (newest-shown x xs t, k) (step ∙ first ∙ ap (λ q. (q, e.version) ∷ pairs (newest ts xs)) same)
    same_at false x xs t k h step = rw (newest-skipped x xs t) step

    -- the insert goes behind x, whose key is below its own
    other_at : (b : Bool) (x : IndexEntry) (xs : List IndexEntry) → (nat_le x.ts ts && not (has_entry x.key ts xs)) ≡ b
        → text_cmp e.key x.key ≡ Greater → has_entry x.key ts (inserted e xs) ≡ has_entry x.key ts xs
        → pairs (newest ts (inserted e xs)) ≡ insert_entry text_cmp (pairs (newest ts xs)) e.key e.version
        → pairs (newest ts (x ∷ inserted e xs)) ≡ insert_entry text_cmp (pairs (newest ts (x ∷ xs))) e.key e.version
    other_at true x xs t k kept step =
        rw (newest-shown x xs t, newest-shown x (inserted e xs) (rw kept t), k) (ap (λ ps. (x.key, x.version) ∷ ps) step)
    other_at false x xs t k kept step = rw (newest-skipped x xs t, newest-skipped x (inserted e xs) (rw kept t)) step

    sets_at : (o : Ordering) (x : IndexEntry) (xs : List IndexEntry) → text_cmp e.key x.key ≡ o → AllAfter x xs
        → pairs (newest ts (inserted e xs)) ≡ insert_entry text_cmp (pairs (newest ts xs)) e.key e.version
        → pairs (newest ts (inserted e (x ∷ xs))) ≡ insert_entry text_cmp (pairs (newest ts (x ∷ xs))) e.key e.version
    sets_at Less x xs k h step = rw (ap is_lt k) (before x xs (k, above_from e.key x.key xs k (from_after x xs h)))
    sets_at Equal x xs k h step =
        let there : has_entry x.key ts (inserted e xs) ≡ true = has_entry-there e x.key xs (rw (k, early) refl) in
        let skip : (nat_le x.ts ts && not (has_entry x.key ts (inserted e xs))) ≡ false = rw there (and_right (nat_le x.ts ts) false refl) in
        rw (ap is_lt k, newest-skipped x (inserted e xs) skip) (same_at (nat_le x.ts ts && not (has_entry x.key ts xs)) x xs refl k (from_after x xs h) step)
    sets_at Greater x xs k h step =
        let kept : has_entry x.key ts (inserted e xs) ≡ has_entry x.key ts xs = has_entry-kept e x.key xs (rw k refl) in
        rw (ap is_lt k) (other_at (nat_le x.ts ts && not (has_entry x.key ts xs)) x xs refl k kept step)

    -- an insert up to ts sets its key
    pub sets_key : (es : List IndexEntry) → IsInOrder es → pairs (newest ts (inserted e es)) ≡ insert_entry text_cmp (pairs (newest ts es)) e.key e.version
    sets_key [] h = rw early refl
    sets_key (x ∷ xs) h = sets_at (text_cmp e.key x.key) x xs refl h.0 (sets_key xs h.1)

-- an insert keeps the order
module _ (e : IndexEntry) where
  after_at : (o : Ordering) (x : IndexEntry) → text_cmp e.key x.key ≡ o → is_lt o ≡ false → (x.key ≡ e.key → x.ts < e.ts) → is_lt (entry_cmp x e) ≡ true
  after_at Less x k n h = cc
  after_at Equal x k n h =
      let less : nat_cmp x.ts e.ts ≡ Less = is_below x.ts e.ts (h (sym (exact_bytes e.key x.key k))) in
      rw (turned e.key x.key Equal k, less) refl
  after_at Greater x k n h = rw (turned e.key x.key Greater k) refl

  all_after_at : (b : Bool) (x y : IndexEntry) (ys : List IndexEntry) → is_lt (entry_cmp x e) ≡ true → AllAfter x (y ∷ ys) → AllAfter x (inserted e ys) → AllAfter x (cond b (e ∷ y ∷ ys) (y ∷ inserted e ys))
  all_after_at true x y ys k h step = (k, h)
  all_after_at false x y ys k h step = (h.0, step)

  all_after : (x : IndexEntry) (ys : List IndexEntry) → is_lt (entry_cmp x e) ≡ true → AllAfter x ys → AllAfter x (inserted e ys)
  all_after x [] k h = (k, tt)
  all_after x (y ∷ ys) k h = all_after_at (is_lt (text_cmp e.key y.key)) x y ys k h (all_after x ys k h.1)

  after_lower : (x : IndexEntry) (ys : List IndexEntry) → is_lt (entry_cmp e x) ≡ true → AllAfter x ys → AllAfter e ys
  after_lower x [] k h = tt
  after_lower x (y ∷ ys) k h = (ap is_lt (entry_total.trans e x y (is_less (entry_cmp e x) k) (is_less (entry_cmp x y) h.0)), after_lower x ys k h.1)

  in_order_at : (o : Ordering) (x : IndexEntry) (xs : List IndexEntry) → text_cmp e.key x.key ≡ o → (x.key ≡ e.key → x.ts < e.ts) → IsInOrder (x ∷ xs) → IsInOrder (inserted e xs) → IsInOrder (inserted e (x ∷ xs))
  in_order_at Less x xs k t h step =
      let front : is_lt (entry_cmp e x) ≡ true = rw k refl in
      rw (ap is_lt k) ((front, after_lower x xs front h.0), h)
  in_order_at Equal x xs k t h step = rw (ap is_lt k) (all_after x xs (after_at Equal x k refl t) h.0, step)
  in_order_at Greater x xs k t h step = rw (ap is_lt k) (all_after x xs (after_at Greater x k refl t) h.0, step)

  pub stays_in_order : (es : List IndexEntry) → IsInOrder es → AllEarlier e.key e.ts es → IsInOrder (inserted e es)
  stays_in_order [] h t = (tt, tt)
  stays_in_order (x ∷ xs) h t = in_order_at (text_cmp e.key x.key) x xs refl t.0 h (stays_in_order xs h.1 t.1)
