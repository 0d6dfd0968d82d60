-- What a string of UTF-8 says is UTF-8.
use Rattle.std.proofs.Common.{◌≡◌, ℕ, suc, ◌+◌, ◌/◌, ◌<◌, ◌≤◌, List, [], ◌∷◌, ◌++◌, Bool, true, false, ◌&&◌, eqb, refl, inl, inr, arith}
use Rattle.std.specs.Prelude.{if◌then◌else◌}
use Rattle.std.specs.Str.{IsUtf8}
use Rattle.std.proofs.Math.Utf8.{encode, encodes, scalars, scalar, next}
use Rattle.std.proofs.lemmas.Bool.Decides.{leb_tells, nat_tests}
use Rattle.std.proofs.lemmas.List.{append-nil}
use Rattle.std.proofs.lemmas.Str.{IsUtf8-nil, IsUtf8-append, IsUtf8-from_ascii, encode_ascii}
use Rattle.std.proofs.lemmas.Str.Ascii.{IsAscii-nil, IsAscii-cons}
use Rattle.fn_tree.specs.LexemeValues.{contents, unescaped}

-- no byte is ASCII
abbrev pub AreHigh : List ℕ → Type 0
AreHigh [] = Unit {0}
AreHigh (b ∷ bs) = (128 ≤ b) × AreHigh bs

other : (b c : ℕ) → c < 128 → 128 ≤ b → eqb b c ≡ false
other b c l h = grind (arith, nat_tests)

high_passes : (bs rest : List ℕ) → AreHigh bs → contents false (bs ++ rest) ≡ bs ++ contents false rest
high_passes [] rest h = refl
high_passes (b ∷ bs) rest h = rw (other b 34 (omega arith) h.0, other b 92 (omega arith) h.0, high_passes bs rest h.1)

high_escaped : (b : ℕ) (bs rest : List ℕ) → AreHigh (b ∷ bs) → contents true ((b ∷ bs) ++ rest) ≡ (b ∷ bs) ++ contents false rest
high_escaped b bs rest h = rw (other b 110 (omega arith) h.0, other b 116 (omega arith) h.0, high_passes bs rest h.1)

pub high_said : (escaped : Bool) (b : ℕ) (bs rest : List ℕ) → AreHigh (b ∷ bs) → contents escaped ((b ∷ bs) ++ rest) ≡ (b ∷ bs) ++ contents false rest
high_said true b bs rest h = high_escaped b bs rest h
high_said false b bs rest h = high_passes (b ∷ bs) rest h

pub encode_high : (c : ℕ) → 128 ≤ c → (b : ℕ) × (bs : List ℕ) × (encode c ≡ b ∷ bs) × AreHigh (b ∷ bs)
unfolding encode
encode_high c h = elim (leb_tells (suc c) 128) [
  | inl t ↦ absurd (omega (arith, t.1))
  | inr t ↦ elim (leb_tells (suc c) 2048) [
    | inl u ↦ (192 + c / 64, next c ∷ [], rw (t.0, u.0), (omega arith, (omega arith, tt)))
    | inr u ↦ elim (leb_tells (suc c) 65536) [
      | inl v ↦ (224 + c / 4096, next (c / 64) ∷ next c ∷ [], rw (t.0, u.0, v.0), (omega arith, (omega arith, (omega arith, tt))))
      | inr v ↦ (240 + c / 262144, next (c / 4096) ∷ next (c / 64) ∷ next c ∷ [], rw (t.0, u.0, v.0), (omega arith, (omega arith, (omega arith, (omega arith, tt)))))
    ]
  ]
]

one_byte : (b : ℕ) → b < 128 → IsUtf8 (b ∷ [])
one_byte b h = IsUtf8-from_ascii (b ∷ []) (IsAscii-cons b [] h IsAscii-nil)

put_byte : (b : ℕ) (bs : List ℕ) → b < 128 → IsUtf8 bs → IsUtf8 (b ∷ bs)
put_byte b bs h u = IsUtf8-append (b ∷ []) bs (one_byte b h) u

low_escape : (b : ℕ) → b < 128 → unescaped b < 128
low_escape b h = grind (arith, nat_tests)

one_char : (c : ℕ) → scalar c ≡ true → IsUtf8 (encode c)
one_char c good = (c ∷ [], (rw good refl, append-nil (encode c)))

-- what the bytes of some characters say
said_high : (escaped : Bool) (c : ℕ) (rest : List ℕ) → 128 ≤ c → scalar c ≡ true → IsUtf8 (contents false rest) → IsUtf8 (contents escaped (encode c ++ rest))
said_high escaped c rest h good u =
    let e = encode_high c h in
    let f : contents escaped (encode c ++ rest) ≡ encode c ++ contents false rest = rw e.2 (high_said escaped e.0 e.1 rest e.3) in
    rw f (IsUtf8-append (encode c) (contents false rest) (one_char c good) u)

said_low : (escaped : Bool) (c : ℕ) (rest : List ℕ) → c < 128 → ((b : Bool) → IsUtf8 (contents b rest)) → IsUtf8 (contents escaped (c ∷ rest))
said_low true c rest h u = put_byte (unescaped c) (contents false rest) (low_escape c h) (u false)
said_low false c rest h u = said_plain c rest h (eqb c 34) (eqb c 92) (u (eqb c 92))
  where
    said_plain : (c : ℕ) (rest : List ℕ) → c < 128 → (quote slash : Bool) → IsUtf8 (contents slash rest) → IsUtf8 (if quote then [] else (if slash then [] else c ∷ []) ++ contents slash rest)
    said_plain c rest h true slash u = IsUtf8-nil
    said_plain c rest h false true u = u
    said_plain c rest h false false u = put_byte c (contents false rest) h u

and_left : (a b : Bool) → (a && b) ≡ true → a ≡ true
and_left true b h = refl
and_left false b h = cc

and_right : (a b : Bool) → (a && b) ≡ true → b ≡ true
and_right true b h = h
and_right false b h = cc

said : (cs : List ℕ) → scalars cs ≡ true → (escaped : Bool) → IsUtf8 (contents escaped (encodes cs))
said [] h true = IsUtf8-nil
said [] h false = IsUtf8-nil
said (c ∷ cs) h escaped =
    let rest = said cs (and_right (scalar c) (scalars cs) h) in
    elim (leb_tells (suc c) 128) [
      | inl t ↦ rw (encode_ascii c t.1) (said_low escaped c (encodes cs) t.1 rest)
      | inr t ↦ said_high escaped c (encodes cs) (omega (arith, t.1)) (and_left (scalar c) (scalars cs) h) (rest false)
    ]

-- what the bytes of a text say
pub contents_text : (escaped : Bool) (bs : List ℕ) → IsUtf8 bs → IsUtf8 (contents escaped bs)
contents_text escaped bs u = rw (← u.1.1) (said u.0 u.1.0 escaped)
