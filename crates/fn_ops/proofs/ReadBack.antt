-- What operations leave is what others read.
use Rattle.std.proofs.Common.{◌≡◌, ◌≢◌, ◌+◌, ◌<◌, ◌≤ℤ◌, ℕ, zero, suc, ℤ, pos, negsuc, ◌+ℤ◌, ◌*ℤ◌, Bool, true, false, not, cond, nat_lt, List, [], ◌∷◌, ◌++◌, length, Some, None, Ok, Err, Ordering, Less, Equal, Greater, refl, sym, ap, ◌∙◌, subst, arith, length-append}
use Rattle.std.proofs.lemmas.Cmp.{nat_list_cmp_total}
use Rattle.std.proofs.lemmas.Int.{ints, quot-rem, rem_below}
use Rattle.std.proofs.lemmas.Map.Entries.{lookup-filter-keys}
use Rattle.std.proofs.lemmas.Map.Lookups.{exact_bytes}
use Rattle.std.specs.BTreeMap.{is_at}
use Rattle.std.specs.Map.{lookup}
use Rattle.std.specs.Option.{is_some}
use Rattle.std.specs.Ordering.{is_eq, ordering_reverse, match_ordering}
use Rattle.std.specs.Prelude.{unsigned_abs, int_div, int_rem, slice_get, if◌then◌else◌}
use Rattle.cv_values.specs.Docs.{with_member}
use Rattle.cv_values.specs.Equality.{list_of-values_of, pairs_of-members_of}
use Rattle.cv_values.specs.Order.{text_cmp}
use Rattle.cv_values.specs.Sizes.{size_of, has_many, is_bad_name}
use Rattle.cv_values.specs.Value.{Value, int, boolean, string, array, object, values_of, list_of, members_of, pairs_of, depth_of}
use Rattle.fn_ops.specs.OperationLaws.{DivisionIsExact, SetIsRead, WithoutIsRead, PushIsRead}
use Rattle.fn_ops.specs.Operations.{made, fits, integer, is_zero, divide, remainder, field, item, some_or, length_of, count, has, without_field}
use Rattle.fn_ops.specs.declared.fault.OpFault.TheVariants.{TooDeep, TooMany, TooLarge, BadName, Overflow, DivisionByZero, NoField, OutOfRange}

-- what is within the limits is given as it is
made_is : (v w : Value) → made v ≡ Ok w → v ≡ w
made_is v w = go (nat_lt 96 (depth_of v)) (has_many v) (nat_lt 8388608 (size_of v)) where
  go : (a b c : Bool) → (if a then Err TooDeep else (if b then Err TooMany else (if c then Err TooLarge else Ok v))) ≡ Ok w → v ≡ w
  go true b c e = cc
  go false true c e = cc
  go false false true e = cc
  go false false false e = cc

integer_is : (z q : ℤ) → integer z ≡ Ok (int q) → z ≡ q
integer_is z q = go (fits z) where
  go : (b : Bool) → (if b then Ok (int z) else Err Overflow) ≡ Ok (int q) → z ≡ q
  go true e = cc
  go false e = cc

divided : (a b q : ℤ) → divide (int a) (int b) ≡ Ok (int q) → (is_zero b ≡ false) × (int_div a b ≡ q)
divided a b q = go (is_zero b) refl where
  go : (z : Bool) → is_zero b ≡ z → (if z then Err DivisionByZero else integer (int_div a b)) ≡ Ok (int q) → (is_zero b ≡ false) × (int_div a b ≡ q)
  go true h e = cc
  go false h e = (h, integer_is (int_div a b) q e)

left : (a b r : ℤ) → remainder (int a) (int b) ≡ Ok (int r) → int_rem a b ≡ r
left a b r = go (is_zero b) (fits (int_div a b)) where
  go : (z f : Bool) → (if z then Err DivisionByZero else (if f then Ok (int (int_rem a b)) else Err Overflow)) ≡ Ok (int r) → int_rem a b ≡ r
  go true f e = cc
  go false true e = cc
  go false false e = cc

some_abs : (b : ℤ) → is_zero b ≡ false → 0 < unsigned_abs b
some_abs (pos zero) h = cc
some_abs (pos (suc n)) h = omega arith
some_abs (negsuc n) h = omega arith

rem_above : (a b : ℤ) → pos 0 ≤ℤ a → pos 0 ≤ℤ int_rem a b
rem_above (pos a) b h = omega (arith, ints)
rem_above (negsuc a) b h = absurd (omega (arith, ints))

rem_under : (a b : ℤ) → a ≤ℤ pos 0 → int_rem a b ≤ℤ pos 0
rem_under (pos zero) b h = omega (arith, ints)
rem_under (pos (suc a)) b h = absurd (omega (arith, ints))
rem_under (negsuc a) b h = omega (arith, ints)

pub division_is_exact : DivisionIsExact
division_is_exact a b q r d m =
    let whole = divided a b q d in
    let rest = left a b r m in
    subst (λ (z : ℤ). (z *ℤ b +ℤ r ≡ a) × (unsigned_abs r < unsigned_abs b) × (pos 0 ≤ℤ a → pos 0 ≤ℤ r) × (a ≤ℤ pos 0 → r ≤ℤ pos 0)) whole.1
    (subst (λ (z : ℤ). (int_div a b *ℤ b +ℤ z ≡ a) × (unsigned_abs z < unsigned_abs b) × (pos 0 ≤ℤ a → pos 0 ≤ℤ z) × (a ≤ℤ pos 0 → z ≤ℤ pos 0)) rest
    (quot-rem a b, rem_below a b (some_abs b whole.0), rem_above a b, rem_under a b))

-- ---- objects
abbrev Pairs : Type 0
Pairs = List (List ℕ × Value)

field_at : (ms : Pairs) (n : List ℕ) → field (object (members_of ms)) n ≡ some_or NoField (lookup (is_at (text_cmp n)) ms)
field_at ms n = ap (λ l. some_or NoField (lookup (is_at (text_cmp n)) l)) (pairs_of-members_of ms)

own_reverse : (o : Ordering) → o ≡ ordering_reverse o → o ≡ Equal
own_reverse Less e = cc
own_reverse Equal e = refl
own_reverse Greater e = cc

same_name : (n : List ℕ) → text_cmp n n ≡ Equal
same_name n = own_reverse (text_cmp n n) (nat_list_cmp_total.antisymm n n)

other_name : (m n : List ℕ) → m ≢ n → is_at (text_cmp m) n ≡ false
other_name m n d = go (text_cmp m n) refl where
  go : (o : Ordering) → text_cmp m n ≡ o → is_eq o ≡ false
  go Less e = refl
  go Equal e = absurd (d (exact_bytes m n e))
  go Greater e = refl

-- the value that was put in is found
found : (n : List ℕ) (v : Value) (ms : Pairs) → lookup (is_at (text_cmp n)) (with_member ms n v) ≡ Some v
found n v [] = ap (λ o. cond (is_eq o) (Some v) None) (same_name n)
found n v (e ∷ es) = go (text_cmp n e.0) refl (found n v es) where
  go : (o : Ordering) → text_cmp n e.0 ≡ o → lookup (is_at (text_cmp n)) (with_member es n v) ≡ Some v → lookup (is_at (text_cmp n)) (match_ordering o ((n, v) ∷ e ∷ es) ((e.0, v) ∷ es) (e ∷ with_member es n v)) ≡ Some v
  go Less h rest = ap (λ o. cond (is_eq o) (Some v) (lookup (is_at (text_cmp n)) (e ∷ es))) (same_name n)
  go Equal h rest = ap (λ o. cond (is_eq o) (Some v) (lookup (is_at (text_cmp n)) es)) h
  go Greater h rest = ap (λ o. cond (is_eq o) (Some e.1) (lookup (is_at (text_cmp n)) (with_member es n v))) h ∙ rest

-- and at another name what was there
found_other : (m n : List ℕ) (v : Value) → m ≢ n → (ms : Pairs) → lookup (is_at (text_cmp m)) (with_member ms n v) ≡ lookup (is_at (text_cmp m)) ms
found_other m n v d [] = ap (λ b. cond b (Some v) None) (other_name m n d)
found_other m n v d (e ∷ es) = go (text_cmp n e.0) refl (found_other m n v d es) where
  go : (o : Ordering) → text_cmp n e.0 ≡ o → lookup (is_at (text_cmp m)) (with_member es n v) ≡ lookup (is_at (text_cmp m)) es → lookup (is_at (text_cmp m)) (match_ordering o ((n, v) ∷ e ∷ es) ((e.0, v) ∷ es) (e ∷ with_member es n v)) ≡ lookup (is_at (text_cmp m)) (e ∷ es)
  go Less h rest = ap (λ b. cond b (Some v) (lookup (is_at (text_cmp m)) (e ∷ es))) (other_name m n d)
  go Equal h rest =
      let away : is_at (text_cmp m) e.0 ≡ false = subst (λ (k : List ℕ). is_at (text_cmp m) k ≡ false) (exact_bytes n e.0 h) (other_name m n d) in
      ap (λ b. cond b (Some v) (lookup (is_at (text_cmp m)) es)) away ∙ sym (ap (λ b. cond b (Some e.1) (lookup (is_at (text_cmp m)) es)) away)
  go Greater h rest = ap (λ l. cond (is_at (text_cmp m) e.0) (Some e.1) l) rest

pub set_is_read : SetIsRead
set_is_read ms n v w = go (is_bad_name false n) where
  new : Pairs
  new = with_member (pairs_of ms) n v

  go : (b : Bool) → (if b then Err BadName else made (object (members_of new))) ≡ Ok w → (field w n ≡ Ok v) × ((m : List ℕ) → m ≢ n → field w m ≡ field (object ms) m)
  go true e = cc
  go false e =
      subst (λ (u : Value). (field u n ≡ Ok v) × ((m : List ℕ) → m ≢ n → field u m ≡ field (object ms) m)) (made_is (object (members_of new)) w e) (
        field_at new n ∙ ap (some_or NoField) (found n v (pairs_of ms)),
        λ m d. field_at new m ∙ ap (some_or NoField) (found_other m n v d (pairs_of ms)),
      )

pub without_is_read : WithoutIsRead
without_is_read ms n w e =
    subst (λ (u : Value). (has u (string n) ≡ Ok (boolean false)) × ((m : List ℕ) → m ≢ n → field u m ≡ field (object ms) m)) (made_is (object (without_field n ms)) w e) (
      ap (λ l. Ok (boolean (is_some (lookup (is_at (text_cmp n)) l)))) (pairs_of-members_of _)
          ∙ ap (λ o. Ok (boolean (is_some o))) (lookup-filter-keys (is_at (text_cmp n)) kept false (λ k t. ap not t) (pairs_of ms)),
      λ m d. field_at _ m ∙ ap (some_or NoField) (lookup-filter-keys (is_at (text_cmp m)) kept true (stays m d) (pairs_of ms)),
    ) where
      kept : List ℕ → Bool
      kept k = not (is_at (text_cmp n) k)

      stays : (m : List ℕ) → m ≢ n → (k : List ℕ) → is_at (text_cmp m) k ≡ true → kept k ≡ true
      stays m d k t = go (text_cmp m k) refl t where
        go : (o : Ordering) → text_cmp m k ≡ o → is_eq o ≡ true → kept k ≡ true
        go Less h e = cc
        go Equal h e = subst (λ (j : List ℕ). kept j ≡ true) (exact_bytes m k h) (ap not (other_name n m (λ p. d (sym p))))
        go Greater h e = cc

-- ---- arrays
last_is : (vs : List Value) (v : Value) → slice_get (vs ++ v ∷ []) (length vs) ≡ Some v
last_is [] v = refl
last_is (x ∷ xs) v = last_is xs v

others_stay : (vs : List Value) (v : Value) (i : ℕ) → i < length vs → slice_get (vs ++ v ∷ []) i ≡ slice_get vs i
others_stay [] v i h = absurd (omega arith)
others_stay (x ∷ xs) v zero h = refl
others_stay (x ∷ xs) v (suc i) h = others_stay xs v i (omega arith)

item_there : (vs : List Value) (i : ℕ) → item (array (values_of vs)) (int (pos i)) ≡ some_or OutOfRange (slice_get vs i)
item_there vs i = ap (λ l. some_or OutOfRange (slice_get l i)) (list_of-values_of vs)

pub push_is_read : PushIsRead
push_is_read vs v w e =
    let old = list_of vs in
    let new = old ++ v ∷ [] in
    subst (λ (u : Value). (length_of u ≡ Ok (int (pos (length old + 1)))) × (item u (int (pos (length old))) ≡ Ok v) × ((i : ℕ) → i < length old → item u (int (pos i)) ≡ item (array vs) (int (pos i)))) (made_is (array (values_of new)) w e) (
      ap (λ l. count (length l)) (list_of-values_of new) ∙ ap count (length-append old (v ∷ [])),
      item_there new (length old) ∙ ap (some_or OutOfRange) (last_is old v),
      λ i h. item_there new i ∙ ap (some_or OutOfRange) (others_stay old v i h),
    )
