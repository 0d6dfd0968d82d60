-- The list of records where one is found, changed, taken out or put in at a place.
use Rattle.std.proofs.Common.{◌≡◌, ◌≢◌, ℕ, zero, suc, ◌<◌, ◌≤◌, Bool, true, false, ◌==◌, nat_lt, cond, List, [], ◌∷◌, ◌++◌, length, take, drop, Some, None, Option, get_or, refl, sym, ap, ◌∙◌, arith}
use Rattle.std.specs.Prelude.{slice_get, slice_set, insert, remove}
use Rattle.std.proofs.lemmas.Bool.Decides.{nat_tests}
use Rattle.std.proofs.lemmas.Option.{get_or_from_slice_get}
use Rattle.cv_subs.specs.Subs.{Sub, Subs, sub_at, with_sub, without_sub, changed, AllAbove, IsRising}
use Rattle.cv_subs.specs.Views.{shown, all_shown, AllBelow}
use Rattle.cv_subs.specs.declared.record.Record.{Record}
use Rattle.cv_subs.proofs.Numbers.{alike, differ, absent_above, unchanged_above, kept_above}

same_item : {X : Type 0} (x y : X) → ◌≡◌ {A = Option X} (Some x) (Some y) → x ≡ y
same_item x y e = cc

pub above_at : (n : ℕ) (rs : List Record) (k : ℕ) (r : Record) → AllAbove n (all_shown rs) → slice_get rs k ≡ Some r → n < r.id
above_at n [] k r above e = cc
above_at n (y ∷ ys) zero r above e = let same : y.id ≡ r.id = ap (λ (x : Record). x.id) (same_item y r e) in omega (arith, above.0)
above_at n (y ∷ ys) (suc k) r above e = above_at n ys k r above.1 e

module _ (id : ℕ) (r : Record) (is : r.id ≡ id) where
  first_is : (y : Record) → y ≡ r → (y.id == id) ≡ true
  first_is y e = alike y.id id (ap (λ (x : Record). x.id) e ∙ is)

  first_not : (y : Record) (ys : List Record) (k : ℕ) → AllAbove y.id (all_shown ys) → slice_get ys k ≡ Some r → (y.id == id) ≡ false
  first_not y ys k above e = let less = above_at y.id ys k r above e in differ y.id id (λ f. omega arith)

  rest_above : (y : Record) (ys : List Record) → y ≡ r → AllAbove y.id (all_shown ys) → AllAbove id (all_shown ys)
  rest_above y ys e above = rw (← (ap (λ (x : Record). x.id) e ∙ is)) above

  pub sub_found : (rs : List Record) (k : ℕ) → IsRising (all_shown rs) → slice_get rs k ≡ Some r → sub_at id (all_shown rs) ≡ Some (shown r).1
  sub_found [] k rising e = cc
  sub_found (y ∷ ys) zero rising e =
      let same = same_item y r e in let yes = first_is y same in
      rw yes (ap (λ (x : Record). Some (shown x).1) same)
  sub_found (y ∷ ys) (suc k) rising e = let no = first_not y ys k rising.0 e in rw no (sub_found ys k rising.1 e)

  pub set_found : (f : Sub → Sub) (s : Record) → shown s ≡ (id, f (shown r).1) → (rs : List Record) (k : ℕ) → IsRising (all_shown rs) → slice_get rs k ≡ Some r
      → all_shown (slice_set rs k s) ≡ changed id f (all_shown rs)
  set_found f s is_s [] k rising e = cc
  set_found f s is_s (y ∷ ys) zero rising e =
      let same = same_item y r e in let yes = first_is y same in
      let n : id ≡ y.id = sym (ap (λ (x : Record). x.id) same ∙ is) in
      let rest = sym (unchanged_above id f (all_shown ys) (rest_above y ys same rising.0)) in
      let head : shown s ≡ (y.id, f (shown y).1) = is_s ∙ (λ i. (n i, f (shown (sym same i)).1)) in
      rw yes (λ i. head i ∷ rest i)
  set_found f s is_s (y ∷ ys) (suc k) rising e =
      let no = first_not y ys k rising.0 e in
      rw no (ap (λ (m : Subs). shown y ∷ m) (set_found f s is_s ys k rising.1 e))

  pub removed_found : (rs : List Record) (k : ℕ) → IsRising (all_shown rs) → slice_get rs k ≡ Some r → all_shown (remove rs k) ≡ without_sub id (all_shown rs)
  removed_found [] k rising e = cc
  removed_found (y ∷ ys) zero rising e =
      let same = same_item y r e in let yes = first_is y same in
      let above = rest_above y ys same rising.0 in
      rw (yes, kept_above id (all_shown ys) above) refl
  removed_found (y ∷ ys) (suc k) rising e =
      let no = first_not y ys k rising.0 e in
      rw no (ap (λ (m : Subs). shown y ∷ m) (removed_found ys k rising.1 e))

-- a number that isn't there has no query
pub sub_absent : (id : ℕ) (rs : List Record) (k : ℕ) → AllBelow id (take k rs) → AllAbove id (all_shown (drop k rs)) → sub_at id (all_shown rs) ≡ None
sub_absent id rs zero below above = absent_above id (all_shown rs) above
sub_absent id [] (suc k) below above = refl
sub_absent id (y ∷ ys) (suc k) below above =
    let no : (y.id == id) ≡ false = differ y.id id (λ e. omega (arith, below.0)) in
    rw no (sub_absent id ys k below.1 above)

first_placed : (id : ℕ) (s : Sub) (l : Subs) → AllAbove id l → with_sub id s l ≡ (id, s) ∷ l
first_placed id s [] above = refl
first_placed id s (p ∷ l) above =
    let no : (p.0 == id) ≡ false = differ p.0 id (λ e. omega (arith, above.0)) in
    let less : nat_lt id p.0 ≡ true = grind (arith, nat_tests, above.0) in
    rw (no, less) refl

pub inserted_placed : (id : ℕ) (s : Sub) (r : Record) → shown r ≡ (id, s) → (rs : List Record) (k : ℕ) → AllBelow id (take k rs) → AllAbove id (all_shown (drop k rs))
    → all_shown (insert rs k r) ≡ with_sub id s (all_shown rs)
inserted_placed id s r is rs zero below above = ap (λ (p : ℕ × Sub). p ∷ all_shown rs) is ∙ sym (first_placed id s (all_shown rs) above)
inserted_placed id s r is [] (suc k) below above = ap (λ (p : ℕ × Sub). p ∷ []) is
inserted_placed id s r is (y ∷ ys) (suc k) below above =
    let no : (y.id == id) ≡ false = differ y.id id (λ e. omega (arith, below.0)) in
    let more : nat_lt id y.id ≡ false = grind (arith, nat_tests, below.0) in
    rw (no, more) (ap (λ (m : Subs). shown y ∷ m) (inserted_placed id s r is ys k below.1 above))

pub length_shown : (rs : List Record) → length (all_shown rs) ≡ length rs
length_shown [] = refl
length_shown (r ∷ rs) = ap suc (length_shown rs)

-- where the number isn't there, nothing is taken out or changed
pub kept_absent : (id : ℕ) (rs : List Record) (k : ℕ) → AllBelow id (take k rs) → AllAbove id (all_shown (drop k rs)) → without_sub id (all_shown rs) ≡ all_shown rs
kept_absent id rs zero below above = kept_above id (all_shown rs) above
kept_absent id [] (suc k) below above = refl
kept_absent id (y ∷ ys) (suc k) below above =
    let no : (y.id == id) ≡ false = differ y.id id (λ e. omega (arith, below.0)) in
    rw no (ap (λ (m : Subs). shown y ∷ m) (kept_absent id ys k below.1 above))

pub unchanged_absent : (id : ℕ) (f : Sub → Sub) (rs : List Record) (k : ℕ) → AllBelow id (take k rs) → AllAbove id (all_shown (drop k rs)) → changed id f (all_shown rs) ≡ all_shown rs
unchanged_absent id f rs zero below above = unchanged_above id f (all_shown rs) above
unchanged_absent id f [] (suc k) below above = refl
unchanged_absent id f (y ∷ ys) (suc k) below above =
    let no : (y.id == id) ≡ false = differ y.id id (λ e. omega (arith, below.0)) in
    rw no (ap (λ (m : Subs). shown y ∷ m) (unchanged_absent id f ys k below.1 above))

-- what stands at a place was found there
pub found_is : (rs : List Record) (k : ℕ) (r d : Record) → slice_get rs k ≡ Some r → d ≡ get_or rs k d → r ≡ d
found_is rs k r d here is = sym (is ∙ get_or_from_slice_get rs k r d here)
