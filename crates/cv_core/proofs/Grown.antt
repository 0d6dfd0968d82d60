-- An index with more entries: what its newest versions are.
use Rattle.std.proofs.Common.{◌≡◌, ℕ, zero, suc, ◌+◌, ◌<◌, ◌≤◌, Bool, true, false, not, ◌&&◌, ◌||◌, nat_le, cond, List, [], ◌∷◌, ◌++◌, map, length, Option, Some, None, MatchOption, refl, sym, ap, ◌∙◌, arith}
use Rattle.std.specs.Prelude.{slice_get, option_map, option_and_then}
use Rattle.std.specs.List.{AllByRecursion, cons_option}
use Rattle.std.specs.Ordering.{is_eq, is_lt}
use Rattle.std.specs.declared.cmp.Ordering.{Ordering}
use Rattle.std.specs.declared.cmp.Ordering.TheVariants.{Less, Equal, Greater}
use Rattle.std.proofs.lemmas.Bool.{and_parts, or_parts, not-true}
use Rattle.std.proofs.lemmas.Bool.Decides.{nat_tests}
use Rattle.cv_values.specs.Order.{text_cmp}
use Rattle.cv_values.specs.declared.doc.Doc.{Doc}
use Rattle.cv_docs.specs.Entries.{IsInOrder, AllBefore, AreKnown, inserted}
use Rattle.cv_docs.specs.History.{Current, current, with_all, AreAllowed, set_all}
use Rattle.cv_docs.specs.Rows.{counts, has_entry, newest}
use Rattle.cv_docs.specs.declared.entry.IndexEntry.{IndexEntry}
use Rattle.cv_docs.proofs.Allowed.{before_inserted, stay_known}
use Rattle.cv_docs.proofs.Later.{inserts_set, inserts_keep_order}
use Rattle.cv_docs.proofs.Newest.{newest-later}
use Rattle.cv_docs.proofs.Orders.{turned, AllFrom, from_after}
use Rattle.cv_core.specs.Kept.{shown}
use Rattle.cv_core.proofs.Ascending.{AllAbove, Ascending}

le_is : (m n : ℕ) → m ≤ n → nat_le m n ≡ true
le_is m n h = grind (arith, nat_tests)

not_le : (m n : ℕ) → n < m → nat_le m n ≡ false
not_le m n h = grind (arith, nat_tests)

-- ---- inserts at a timestamp

abbrev pub AllAt : ℕ → List IndexEntry → Type 0
AllAt ts xs = AllByRecursion (λ x. x.ts ≡ ts) xs

pub order_all : (xs es : List IndexEntry) → IsInOrder es → AreAllowed xs es → IsInOrder (with_all xs es)
order_all [] es h a = h
order_all (x ∷ xs) es h a = order_all xs (inserted x es) (inserts_keep_order x es h a.0) a.1

pub before_all : (ts : ℕ) (xs es : List IndexEntry) → AllAt ts xs → AllBefore (ts + 1) es → AllBefore (ts + 1) (with_all xs es)
before_all ts [] es t h = h
before_all ts (x ∷ xs) es t h = before_all ts xs (inserted x es) t.1 (before_inserted (ts + 1) x es (omega (arith, t.0)) h)

abbrev pub IsKnown : ℕ → Option ℕ → Type 0
IsKnown n v = MatchOption v (Unit {0}) (λ k. k < n)

pub known_all : (n : ℕ) (xs es : List IndexEntry) → AllByRecursion (λ x. IsKnown n x.version) xs → AreKnown n es → AreKnown n (with_all xs es)
known_all n [] es k h = h
known_all n (x ∷ xs) es k h = known_all n xs (inserted x es) k.1 (stay_known x es n n (omega arith) h (k.0, tt))

known_more : (n m : ℕ) (v : Option ℕ) → n ≤ m → IsKnown n v → IsKnown m v
known_more n m None l h = tt
known_more n m (Some k) l h = omega (arith, h)

pub known_lift : (n m : ℕ) (es : List IndexEntry) → n ≤ m → AreKnown n es → AreKnown m es
known_lift n m [] l h = tt
known_lift n m (x ∷ xs) l h = (known_more n m x.version l h.0, known_lift n m xs l h.1)

pub before_next : (ts : ℕ) (es : List IndexEntry) → AllBefore ts es → AllBefore (ts + 1) es
before_next ts [] h = tt
before_next ts (x ∷ xs) h = (omega (arith, h.0), before_next ts xs h.1)

pub current_all : (ts : ℕ) (xs es : List IndexEntry) → AllAt ts xs → IsInOrder es → AreAllowed xs es → current ts (with_all xs es) ≡ set_all xs (current ts es)
current_all ts [] es t h a = refl
current_all ts (x ∷ xs) es t h a =
    current_all ts xs (inserted x es) t.1 (inserts_keep_order x es h a.0) a.1
    ∙ ap (set_all xs) (inserts_set x es ts h a.0 (omega (arith, t.0)))

-- ---- earlier timestamps

pub current_before : (ts late : ℕ) (xs es : List IndexEntry) → ts < late → AllAt late xs → current ts (with_all xs es) ≡ current ts es
current_before ts late [] es l t = refl
current_before ts late (x ∷ xs) es l t =
    current_before ts late xs (inserted x es) l t.1
    ∙ ap (λ n. map (λ e. (e.key, e.version)) n) (newest-later ts x (not_le x.ts ts (omega (arith, t.0))) es)

-- where all entries are up to both timestamps
has_same : (k : List ℕ) (a b : ℕ) (es : List IndexEntry) → AllByRecursion (λ x. nat_le x.ts a ≡ nat_le x.ts b) es → has_entry k a es ≡ has_entry k b es
has_same k a b [] h = refl
has_same k a b (x ∷ xs) h =
    ap (λ t. (is_eq (text_cmp x.key k) && t) || has_entry k a xs) h.0 ∙ ap (λ r. counts b k x || r) (has_same k a b xs h.1)

newest_same : (a b : ℕ) (es : List IndexEntry) → AllByRecursion (λ x. nat_le x.ts a ≡ nat_le x.ts b) es → newest a es ≡ newest b es
newest_same a b [] h = refl
newest_same a b (x ∷ xs) h =
    ap (λ t. cond (t && not (has_entry x.key a xs)) (x ∷ newest a xs) (newest a xs)) h.0
    ∙ ap (λ t. cond (nat_le x.ts b && not t) (x ∷ newest a xs) (newest a xs)) (has_same x.key a b xs h.1)
    ∙ ap (λ r. cond (nat_le x.ts b && not (has_entry x.key b xs)) (x ∷ r) r) (newest_same a b xs h.1)

both_up : (n : ℕ) (es : List IndexEntry) → AllBefore (n + 1) es → AllByRecursion (λ x. nat_le x.ts (n + 1) ≡ nat_le x.ts n) es
both_up n [] h = tt
both_up n (x ∷ xs) h = (le_is x.ts (n + 1) (omega (arith, h.0)) ∙ sym (le_is x.ts n (omega (arith, h.0))), both_up n xs h.1)

pub current_last : (n : ℕ) (es : List IndexEntry) → AllBefore (n + 1) es → current (n + 1) es ≡ current n es
current_last n es h = ap (λ l. map (λ e. (e.key, e.version)) l) (newest_same (n + 1) n es (both_up n es h))

-- ---- keys of newest versions rise

greater : (o : Ordering) → is_lt o ≡ false → is_eq o ≡ false → o ≡ Greater
greater Less p q = cc
greater Equal p q = cc
greater Greater p q = refl

no_eq : (a b : Bool) → (a && b) ≡ false → b ≡ true → a ≡ false
no_eq true b e t = let f : true ≡ false = sym t ∙ e in cc
no_eq false b e t = refl

above_newest : (ts : ℕ) (k : List ℕ) (es : List IndexEntry) → AllFrom k es → has_entry k ts es ≡ false → AllAbove k (current ts es)
above_newest ts k [] h n = tt
above_newest ts k (y ∷ ys) h n = go (nat_le y.ts ts && not (has_entry y.key ts ys)) refl (above_newest ts k ys h.1 no.1)
  where
    no : (counts ts k y ≡ false) × (has_entry k ts ys ≡ false)
    no = or_parts (counts ts k y) (has_entry k ts ys) n

    go : (b : Bool) → (nat_le y.ts ts && not (has_entry y.key ts ys)) ≡ b → AllAbove k (current ts ys)
        → AllAbove k (map (λ e. (e.key, e.version)) (cond b (y ∷ newest ts ys) (newest ts ys)))
    go true e ih =
        let le : nat_le y.ts ts ≡ true = (and_parts (nat_le y.ts ts) (not (has_entry y.key ts ys)) e).0 in
        let g : text_cmp y.key k ≡ Greater = greater (text_cmp y.key k) h.0 (no_eq (is_eq (text_cmp y.key k)) (nat_le y.ts ts) no.0 le) in
        (turned y.key k Greater g, ih)
    go false e ih = ih

pub ascending_newest : (ts : ℕ) (es : List IndexEntry) → IsInOrder es → Ascending (current ts es)
ascending_newest ts [] h = tt
ascending_newest ts (x ∷ xs) h = go (nat_le x.ts ts && not (has_entry x.key ts xs)) refl (ascending_newest ts xs h.1)
  where
    go : (b : Bool) → (nat_le x.ts ts && not (has_entry x.key ts xs)) ≡ b → Ascending (current ts xs)
        → Ascending (map (λ e. (e.key, e.version)) (cond b (x ∷ newest ts xs) (newest ts xs)))
    go true e ih =
        let no : has_entry x.key ts xs ≡ false = not-true (has_entry x.key ts xs) (and_parts (nat_le x.ts ts) (not (has_entry x.key ts xs)) e).1 in
        (above_newest ts x.key xs (from_after x xs h.0) no, ih)
    go false e ih = ih

-- ---- more documents

same_get : (docs more : List Doc) (n : ℕ) → n < length docs → slice_get (docs ++ more) n ≡ slice_get docs n
same_get [] more n h = absurd (omega (arith, h))
same_get (d ∷ docs) more zero h = refl
same_get (d ∷ docs) more (suc n) h = same_get docs more n (omega (arith, h))

shown_pairs : (docs more : List Doc) (m : Current) → AllByRecursion (λ (p : List ℕ × Option ℕ). IsKnown (length docs) p.1) m → shown (docs ++ more) m ≡ shown docs m
shown_pairs docs more [] h = refl
shown_pairs docs more (p ∷ m) h =
    ap (λ o. cons_option (option_map (λ d. (p.0, d)) o) (shown (docs ++ more) m)) (same p.1 h.0)
    ∙ ap (cons_option (option_map (λ d. (p.0, d)) (option_and_then (λ n. slice_get docs n) p.1))) (shown_pairs docs more m h.1)
  where
    same : (v : Option ℕ) → IsKnown (length docs) v → option_and_then (λ n. slice_get (docs ++ more) n) v ≡ option_and_then (λ n. slice_get docs n) v
    same None k = refl
    same (Some n) k = same_get docs more n k

known_newest : (n ts : ℕ) (es : List IndexEntry) → AreKnown n es → AllByRecursion (λ (p : List ℕ × Option ℕ). IsKnown n p.1) (current ts es)
known_newest n ts [] h = tt
known_newest n ts (x ∷ xs) h = go (nat_le x.ts ts && not (has_entry x.key ts xs)) (known_newest n ts xs h.1)
  where
    go : (b : Bool) → AllByRecursion (λ (p : List ℕ × Option ℕ). IsKnown n p.1) (current ts xs) → AllByRecursion (λ (p : List ℕ × Option ℕ). IsKnown n p.1) (map (λ e. (e.key, e.version)) (cond b (x ∷ newest ts xs) (newest ts xs)))
    go true ih = (h.0, ih)
    go false ih = ih

pub shown_more : (docs more : List Doc) (ts : ℕ) (es : List IndexEntry) → AreKnown (length docs) es → shown (docs ++ more) (current ts es) ≡ shown docs (current ts es)
shown_more docs more ts es h = shown_pairs docs more (current ts es) (known_newest (length docs) ts es h)
