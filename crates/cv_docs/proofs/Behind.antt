-- In a list in order, the next entry tells whether an entry is the newest.
use Rattle.std.proofs.Common.{◌≡◌, ℕ, Bool, true, false, not, ◌&&◌, nat_le, List, [], ◌∷◌, slice_get, refl, sym, ap, ◌∙◌, arith}
use Rattle.std.specs.Cmp.Lexicographic.{nat_list_cmp_total}
use Rattle.std.specs.Ordering.{nat_cmp, is_lt, is_eq}
use Rattle.std.specs.declared.cmp.Ordering.{Ordering}
use Rattle.std.specs.declared.cmp.Ordering.TheVariants.{Less, Equal, Greater}
use Rattle.std.proofs.lemmas.Bool.{and_right}
use Rattle.std.proofs.lemmas.Bool.Decides.{nat_tests}
use Rattle.cv_values.specs.Order.{text_cmp}
use Rattle.cv_docs.specs.Entries.{entry_cmp, IsInOrder, AllAfter}
use Rattle.cv_docs.specs.Rows.{counts, has_entry, is_newest}
use Rattle.cv_docs.specs.declared.entry.IndexEntry.{IndexEntry}
use Rattle.cv_docs.proofs.Orders.{turned}

-- y is of another key than k, or later than ts: then so are all behind it
module _ (ts : ℕ) (x : IndexEntry) where
  later_ts : (m n : ℕ) → is_lt (nat_cmp m n) ≡ true → nat_le m ts ≡ false → nat_le n ts ≡ false
  later_ts m n h k = grind (arith, nat_tests)

  other_key : (z : IndexEntry) → text_cmp z.key x.key ≡ Greater → counts ts x.key z ≡ false
  other_key z g = rw g refl

  passed_at : (o p : Ordering) (y z : IndexEntry) → text_cmp x.key y.key ≡ o → text_cmp y.key z.key ≡ p
      → is_lt (entry_cmp x y) ≡ true → is_lt (entry_cmp y z) ≡ true → counts ts x.key y ≡ false → counts ts x.key z ≡ false
  passed_at Greater p y z e f h k n = let g : false ≡ true = rw e at h in cc
  passed_at Less Greater y z e f h k n = let g : false ≡ true = rw f at k in cc
  passed_at Equal Greater y z e f h k n = let g : false ≡ true = rw f at k in cc
  passed_at Less Less y z e f h k n = other_key z (turned x.key z.key Less (nat_list_cmp_total.trans x.key y.key z.key e f))
  passed_at Less Equal y z e f h k n = other_key z (sym (nat_list_cmp_total.congr y.key z.key x.key f) ∙ turned x.key y.key Less e)
  passed_at Equal Less y z e f h k n = other_key z (turned x.key z.key Less (nat_list_cmp_total.congr x.key y.key z.key e ∙ f))
  passed_at Equal Equal y z e f h k n =
      let less : is_lt (nat_cmp y.ts z.ts) ≡ true = rw f at k in
      let late : nat_le y.ts ts ≡ false = rw (turned x.key y.key Equal e) at n in
      rw (later_ts y.ts z.ts less late) (and_right (is_eq (text_cmp z.key x.key)) false refl)

  passed : (y : IndexEntry) (ys : List IndexEntry) → is_lt (entry_cmp x y) ≡ true → AllAfter y ys → counts ts x.key y ≡ false → has_entry x.key ts ys ≡ false
  passed y [] h k n = refl
  passed y (z ∷ zs) h k n = rw (passed_at (text_cmp x.key y.key) (text_cmp y.key z.key) y z refl refl h k.0 n) (passed y zs h k.1 n)

  behind_at : (b : Bool) (y : IndexEntry) (ys : List IndexEntry) → counts ts x.key y ≡ b → AllAfter x (y ∷ ys) → AllAfter y ys → has_entry x.key ts (y ∷ ys) ≡ counts ts x.key y
  behind_at true y ys e h k = rw e refl
  behind_at false y ys e h k = rw e (passed y ys h.0 k e)

  and_true : (b : Bool) → (b && true) ≡ b
  and_true true = refl
  and_true false = refl

  -- what the next entry tells is what the whole rest of the list does
  pub next_tells : (xs : List IndexEntry) → IsInOrder (x ∷ xs) → (nat_le x.ts ts && not (has_entry x.key ts xs)) ≡ is_newest ts x (slice_get xs 0)
  next_tells [] h = and_true (nat_le x.ts ts)
  next_tells (y ∷ ys) h = ap (λ b. nat_le x.ts ts && not b) (behind_at (counts ts x.key y) y ys refl h.0 h.1.0)
