-- Keys, with anything behind them, go by the values.
use Rattle.std.proofs.Common.{◌≡◌, ℕ, ◌%◌, ◌^◌, ◌<◌, ℤ, pos, negsuc, Bool, true, false, cond, List, ◌∷◌, ◌++◌, Ordering, Less, Greater, refl, ap, sym, ◌∙◌, append_assoc, arith}
use Rattle.std.proofs.lemmas.Int.{ints}
use Rattle.std.proofs.lemmas.Bool.Decides.{nat_tests}
use Rattle.std.specs.Ordering.{nat_cmp, int_cmp, bool_cmp, ordering_then}
use Rattle.std.specs.Prelude.{FitsSigned}
use Rattle.std.specs.Int.{w64}
use Rattle.cv_values.specs.Order.{text_cmp, compare, values_cmp, members_cmp}
use Rattle.cv_values.specs.Value.{Value, null, int, boolean, string, bytes, array, object, Values, no_values, value, Members, no_members, member}
use Rattle.cv_keys.specs.KeyBytes.{raised, int_bytes, escaped, key, values_key, members_key}
use Rattle.cv_keys.specs.KeyOrder.{IsInRange, AreInRange, MembersInRange}
use Rattle.cv_keys.proofs.Orders.{then_assoc}
use Rattle.cv_keys.proofs.BigEndian.{bytes_cmp}
use Rattle.cv_keys.proofs.Escapes.{escaped_cmp}

abbrev cmp : List ℕ → List ℕ → Ordering
cmp xs ys = text_cmp xs ys

raised_fits : (n : ℤ) → FitsSigned w64 n → raised n < 2 ^ 64
raised_fits (pos n) h = omega (arith, ints, h)
raised_fits (negsuc n) h = omega (arith, ints, h)

raised_cmp : (m n : ℤ) → FitsSigned w64 m → FitsSigned w64 n → nat_cmp (raised m) (raised n) ≡ int_cmp m n
raised_cmp (pos m) (pos n) h k = grind (arith, nat_tests)
raised_cmp (pos m) (negsuc n) h k = grind (arith, nat_tests)
raised_cmp (negsuc m) (pos n) h k = grind (arith, nat_tests)
raised_cmp (negsuc m) (negsuc n) h k = grind (arith, nat_tests)

int_key_cmp : (m n : ℤ) → FitsSigned w64 m → FitsSigned w64 n → (xs ys : List ℕ) → cmp (int_bytes m ++ xs) (int_bytes n ++ ys) ≡ ordering_then (int_cmp m n) (cmp xs ys)
unfolding int_bytes
int_key_cmp m n h k xs ys =
    let a : raised m % 256 ^ 8 ≡ raised m = omega (arith, raised_fits m h) in
    let b : raised n % 256 ^ 8 ≡ raised n = omega (arith, raised_fits n k) in
    bytes_cmp 8 (raised m) (raised n) xs ys
    ∙ ap (λ x. ordering_then (nat_cmp x (raised n % 256 ^ 8)) (cmp xs ys)) a
    ∙ ap (λ y. ordering_then (nat_cmp (raised m) y) (cmp xs ys)) b
    ∙ ap (λ o. ordering_then o (cmp xs ys)) (raised_cmp m n h k)

booleans : (a b : Bool) (xs ys : List ℕ) → cmp (cond a 1 0 ∷ xs) (cond b 1 0 ∷ ys) ≡ ordering_then (bool_cmp a b) (cmp xs ys)
booleans false false xs ys = refl
booleans false true xs ys = refl
booleans true false xs ys = refl
booleans true true xs ys = refl

end_below : (w : Value) (xs ys : List ℕ) → cmp (0 ∷ xs) (key w ++ ys) ≡ Less
end_below null xs ys = refl
end_below (int n) xs ys = refl
end_below (boolean n) xs ys = refl
end_below (string n) xs ys = refl
end_below (bytes n) xs ys = refl
end_below (array n) xs ys = refl
end_below (object n) xs ys = refl

end_above : (w : Value) (xs ys : List ℕ) → cmp (key w ++ xs) (0 ∷ ys) ≡ Greater
end_above null xs ys = refl
end_above (int n) xs ys = refl
end_above (boolean n) xs ys = refl
end_above (string n) xs ys = refl
end_above (bytes n) xs ys = refl
end_above (array n) xs ys = refl
end_above (object n) xs ys = refl

-- two keys, each before the rest of its list
parts : (a b c d e f : List ℕ) → cmp ((a ++ b) ++ c) ((d ++ e) ++ f) ≡ cmp (a ++ (b ++ c)) (d ++ (e ++ f))
parts a b c d e f = ap (λ l. cmp l ((d ++ e) ++ f)) (append_assoc a b c) ∙ ap (λ l. cmp (a ++ (b ++ c)) l) (append_assoc d e f)

mutual
  pub key_cmp : (v w : Value) → IsInRange v → IsInRange w → (xs ys : List ℕ) → cmp (key v ++ xs) (key w ++ ys) ≡ ordering_then (compare v w) (cmp xs ys)
  key_cmp null null h k xs ys = refl
  key_cmp (int m) (int n) h k xs ys = int_key_cmp m n h k xs ys
  key_cmp (boolean a) (boolean b) h k xs ys = booleans a b xs ys
  key_cmp (string a) (string b) h k xs ys = escaped_cmp a b xs ys
  key_cmp (bytes a) (bytes b) h k xs ys = escaped_cmp a b xs ys
  key_cmp (array vs) (array ws) h k xs ys = values_key_cmp vs ws h k xs ys
  key_cmp (object vs) (object ws) h k xs ys = members_key_cmp vs ws h k xs ys
  key_cmp v w h k xs ys = refl

  values_key_cmp : (vs ws : Values) → AreInRange vs → AreInRange ws → (xs ys : List ℕ) → cmp (values_key vs ++ xs) (values_key ws ++ ys) ≡ ordering_then (values_cmp vs ws) (cmp xs ys)
  values_key_cmp no_values no_values h k xs ys = refl
  values_key_cmp no_values (value w ws) h k xs ys = ap (cmp (0 ∷ xs)) (append_assoc (key w) (values_key ws) ys) ∙ end_below w xs (values_key ws ++ ys)
  values_key_cmp (value v vs) no_values h k xs ys = ap (λ l. cmp l (0 ∷ ys)) (append_assoc (key v) (values_key vs) xs) ∙ end_above v (values_key vs ++ xs) ys
  values_key_cmp (value v vs) (value w ws) h k xs ys =
      parts (key v) (values_key vs) xs (key w) (values_key ws) ys
      ∙ key_cmp v w h.0 k.0 (values_key vs ++ xs) (values_key ws ++ ys)
      ∙ ap (ordering_then (compare v w)) (values_key_cmp vs ws h.1 k.1 xs ys)
      ∙ sym (then_assoc (compare v w) (values_cmp vs ws) (cmp xs ys))

  members_key_cmp : (vs ws : Members) → MembersInRange vs → MembersInRange ws → (xs ys : List ℕ) → cmp (members_key vs ++ xs) (members_key ws ++ ys) ≡ ordering_then (members_cmp vs ws) (cmp xs ys)
  members_key_cmp no_members no_members h k xs ys = refl
  members_key_cmp no_members (member n w ws) h k xs ys = refl
  members_key_cmp (member m v vs) no_members h k xs ys = refl
  members_key_cmp (member m v vs) (member n w ws) h k xs ys =
      parts (escaped m ++ key v) (members_key vs) xs (escaped n ++ key w) (members_key ws) ys
      ∙ parts (escaped m) (key v) (members_key vs ++ xs) (escaped n) (key w) (members_key ws ++ ys)
      ∙ escaped_cmp m n (key v ++ (members_key vs ++ xs)) (key w ++ (members_key ws ++ ys))
      ∙ ap (ordering_then (cmp m n)) (key_cmp v w h.0 k.0 (members_key vs ++ xs) (members_key ws ++ ys)
      ∙ ap (ordering_then (compare v w)) (members_key_cmp vs ws h.1 k.1 xs ys))
      ∙ sym (then_assoc (cmp m n) (compare v w) (ordering_then (members_cmp vs ws) (cmp xs ys)))
      ∙ sym (then_assoc (ordering_then (cmp m n) (compare v w)) (members_cmp vs ws) (cmp xs ys))
