-- What stands for the bytes of a character that is written as it is.
use Rattle.std.proofs.Common.{◌≡◌, ℕ, suc, ◌≤◌, ◌≢◌, List, [], ◌∷◌, refl, inl, inr, arith}
use Rattle.std.specs.List.{flat_map}
use Rattle.std.specs.Prelude.{encode_utf8}
use Rattle.std.proofs.lemmas.Bool.Decides.{leb_tells, nat_tests}
use Rattle.std.proofs.lemmas.Str.{encode_ascii}
use Rattle.fn_tree.specs.Canonical.{escaped, apart}
use Rattle.fn_tree.proofs.StringsSay.{AreHigh, encode_high}

high_stay : (f : ℕ → List ℕ) → ((b : ℕ) → 128 ≤ b → f b ≡ b ∷ []) → (bs : List ℕ) → AreHigh bs → flat_map f bs ≡ bs
high_stay f h [] a = refl
high_stay f h (b ∷ bs) a = rw (h b a.0, high_stay f h bs a.1)

char_stays : (f : ℕ → List ℕ) → ((b : ℕ) → 128 ≤ b → f b ≡ b ∷ []) → (c : ℕ) → f c ≡ c ∷ [] → flat_map f (encode_utf8 c) ≡ encode_utf8 c
char_stays f h c same = elim (leb_tells (suc c) 128) [
  | inl t ↦ rw (encode_ascii c t.1, same)
  | inr t ↦
      let e = encode_high c (omega (arith, t.1)) in
      rw e.2 (high_stay f h (e.0 ∷ e.1) e.3)
]

plain_escaped : (c : ℕ) → c ≢ 34 → c ≢ 92 → c ≢ 10 → c ≢ 9 → escaped c ≡ c ∷ []
plain_escaped c a b d e = grind (arith, nat_tests)

high_escaped : (c : ℕ) → 128 ≤ c → escaped c ≡ c ∷ []
high_escaped c h = plain_escaped c (λ e. omega arith) (λ e. omega arith) (λ e. omega arith) (λ e. omega arith)

plain_apart : (c : ℕ) → c ≢ 47 → c ≢ 58 → apart c ≡ c ∷ []
plain_apart c a b = grind (arith, nat_tests)

high_apart : (c : ℕ) → 128 ≤ c → apart c ≡ c ∷ []
high_apart c h = plain_apart c (λ e. omega arith) (λ e. omega arith)

-- a character that needs no escape is written as it is
pub plain_in_string : (c : ℕ) → c ≢ 34 → c ≢ 92 → c ≢ 10 → c ≢ 9 → flat_map escaped (encode_utf8 c) ≡ encode_utf8 c
plain_in_string c a b d e = char_stays escaped high_escaped c (plain_escaped c a b d e)

-- and so is a character of a path that is no mark
pub plain_in_path : (c : ℕ) → c ≢ 47 → c ≢ 58 → flat_map apart (encode_utf8 c) ≡ encode_utf8 c
plain_in_path c a b = char_stays apart high_apart c (plain_apart c a b)
