-- Where the entries that pass a test end.
use Rattle.std.proofs.Common.{◌≡◌, ℕ, zero, suc, ◌<◌, ◌≤◌, Bool, true, false, List, [], ◌∷◌, length, get_or, refl, sym, ap, ◌∙◌, arith}
use Rattle.std.specs.Cmp.Lexicographic.{nat_list_cmp_total}
use Rattle.std.specs.List.{insert}
use Rattle.std.specs.List.Sorted.{IsPartitionPoint, IsPartitionedBy}
use Rattle.std.specs.Ordering.{is_lt, is_le}
use Rattle.std.specs.declared.cmp.Ordering.{Ordering}
use Rattle.std.specs.declared.cmp.Ordering.TheVariants.{Less, Equal, Greater}
use Rattle.cv_values.specs.Order.{text_cmp}
use Rattle.cv_docs.specs.Entries.{IsInOrder, inserted}
use Rattle.cv_docs.specs.declared.entry.IndexEntry.{IndexEntry}
use Rattle.cv_docs.proofs.Orders.{turned, is_less, AllFrom, from_after}
use Rattle.cv_flat.specs.Parts.{passing}

module _ (p : IndexEntry → Bool) where
  -- from what a bisection answers
  pub passing_from_point : (xs : List IndexEntry) (i : ℕ) → i ≤ length xs → IsPartitionPoint (λ y. p y ≡ true) (λ y. p y ≡ false) xs i → i ≡ passing p xs
  passing_from_point [] i h k = omega arith
  passing_from_point (x ∷ xs) zero h k = let e : p x ≡ false = k.1 0 x (omega arith) (omega arith) in rw e refl
  passing_from_point (x ∷ xs) (suc i) h k =
      let e : p x ≡ true = k.0 0 x (omega arith) (omega arith) in
      rw e (ap suc (passing_from_point xs i (omega arith) ((λ j d l m. k.0 (suc j) d (omega arith) (omega arith)), (λ j d l m. k.1 (suc j) d (omega arith) (omega arith)))))

  -- x passes if one of the list does
  abbrev pub Leads : IndexEntry → List IndexEntry → Type 0
  Leads x [] = Unit {0}
  Leads x (y ∷ ys) = (p y ≡ true → p x ≡ true) × Leads x ys

  -- where an entry passes, so do all before it
  abbrev pub Falls : List IndexEntry → Type 0
  Falls [] = Unit {0}
  Falls (x ∷ xs) = Leads x xs × Falls xs

  leads_at : (x : IndexEntry) (xs : List IndexEntry) (j : ℕ) (d : IndexEntry) → Leads x xs → j < length xs → p (get_or xs j d) ≡ true → p x ≡ true
  leads_at x [] j d h l e = absurd (omega arith)
  leads_at x (y ∷ ys) zero d h l e = h.0 e
  leads_at x (y ∷ ys) (suc j) d h l e = leads_at x ys j d h.1 (omega arith) e

  pub parted : (xs : List IndexEntry) → Falls xs → IsPartitionedBy p xs
  parted [] h i j d l m e = absurd (omega arith)
  parted (x ∷ xs) h zero zero d l m e = e
  parted (x ∷ xs) h zero (suc j) d l m e = leads_at x xs j d h.0 (omega arith) e
  parted (x ∷ xs) h (suc i) zero d l m e = absurd (omega arith)
  parted (x ∷ xs) h (suc i) (suc j) d l m e = parted xs h.1 i j d (omega arith) (omega arith) e

  -- no entry of the list passes
  abbrev pub NonePass : List IndexEntry → Type 0
  NonePass [] = Unit {0}
  NonePass (x ∷ xs) = (p x ≡ false) × NonePass xs

  fails : (a b : Bool) → (b ≡ true → a ≡ true) → a ≡ false → b ≡ false
  fails a false h n = refl
  fails a true h n = sym (h refl) ∙ n

  -- where x doesn't pass, none behind it does
  pub none_behind : (x : IndexEntry) (xs : List IndexEntry) → Leads x xs → p x ≡ false → NonePass xs
  none_behind x [] h n = tt
  none_behind x (y ∷ ys) h n = (fails (p x) (p y) h.0 n, none_behind x ys h.1 n)

module _ (k : List ℕ) where
  -- x isn't above y
  not_above : (x y : List ℕ) (o : Ordering) → text_cmp y x ≡ o → is_lt o ≡ false → text_cmp y k ≡ Less → text_cmp x k ≡ Less
  not_above x y Less e n f = cc
  not_above x y Equal e n f = sym (nat_list_cmp_total.congr y x k e) ∙ f
  not_above x y Greater e n f = nat_list_cmp_total.trans x y k (turned y x Greater e) f

  lower_leads : (x : IndexEntry) (xs : List IndexEntry) → AllFrom x.key xs → Leads (λ e. is_lt (text_cmp e.key k)) x xs
  lower_leads x [] h = tt
  lower_leads x (y ∷ ys) h = ((λ e. ap is_lt (not_above x.key y.key (text_cmp y.key x.key) refl h.0 (is_less (text_cmp y.key k) e))), lower_leads x ys h.1)

  pub lower_falls : (xs : List IndexEntry) → IsInOrder xs → Falls (λ e. is_lt (text_cmp e.key k)) xs
  lower_falls [] h = tt
  lower_falls (x ∷ xs) h = (lower_leads x xs (from_after x xs h.0), lower_falls xs h.1)

  up_to : (o p : Ordering) (x y : List ℕ) → text_cmp y x ≡ o → is_lt o ≡ false → text_cmp y k ≡ p → is_le p ≡ true → is_le (text_cmp x k) ≡ true
  up_to Less p x y e n f m = cc
  up_to Equal p x y e n f m = rw (sym (nat_list_cmp_total.congr y x k e) ∙ f) m
  up_to Greater Less x y e n f m = ap is_le (nat_list_cmp_total.trans x y k (turned y x Greater e) f)
  up_to Greater Equal x y e n f m = ap is_le (turned k x Greater (sym (nat_list_cmp_total.congr y k x f) ∙ e))
  up_to Greater Greater x y e n f m = cc

  upto_leads : (x : IndexEntry) (xs : List IndexEntry) → AllFrom x.key xs → Leads (λ e. is_le (text_cmp e.key k)) x xs
  upto_leads x [] h = tt
  upto_leads x (y ∷ ys) h = ((λ e. up_to (text_cmp y.key x.key) (text_cmp y.key k) x.key y.key refl h.0 refl e), upto_leads x ys h.1)

  pub upto_falls : (xs : List IndexEntry) → IsInOrder xs → Falls (λ e. is_le (text_cmp e.key k)) xs
  upto_falls [] h = tt
  upto_falls (x ∷ xs) h = (upto_leads x xs (from_after x xs h.0), upto_falls xs h.1)

-- the place behind the entries up to its key is where an entry goes
module _ (e : IndexEntry) where
  goes_at : (o : Ordering) (x : IndexEntry) (xs : List IndexEntry) → text_cmp e.key x.key ≡ o
      → insert xs (passing (λ y. is_le (text_cmp y.key e.key)) xs) e ≡ inserted e xs
      → insert (x ∷ xs) (passing (λ y. is_le (text_cmp y.key e.key)) (x ∷ xs)) e ≡ inserted e (x ∷ xs)
  goes_at Less x xs k step = rw (ap is_le (turned e.key x.key Less k), ap is_lt k) refl
  goes_at Equal x xs k step = rw (ap is_le (turned e.key x.key Equal k), ap is_lt k) (ap (λ ys. x ∷ ys) step)
  goes_at Greater x xs k step = rw (ap is_le (turned e.key x.key Greater k), ap is_lt k) (ap (λ ys. x ∷ ys) step)

  pub insert-passing : (xs : List IndexEntry) → insert xs (passing (λ y. is_le (text_cmp y.key e.key)) xs) e ≡ inserted e xs
  insert-passing [] = refl
  insert-passing (x ∷ xs) = goes_at (text_cmp e.key x.key) x xs refl (insert-passing xs)
