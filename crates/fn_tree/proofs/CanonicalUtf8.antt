-- The canonical text of a module is UTF-8.
use Rattle.std.proofs.Common.{◌≡◌, ℕ, ◌<◌, List, [], ◌∷◌, ◌++◌, Bool, true, false, ◌&&◌, eqb, refl, sym, subst, inl, inr, arith, drop}
use Rattle.std.specs.List.{flat_map}
use Rattle.std.specs.Str.{IsUtf8}
use Rattle.std.proofs.Math.Utf8.{encode, encodes, scalars, scalar}
use Rattle.std.proofs.lemmas.Bool.Decides.{eqb_tells}
use Rattle.std.proofs.lemmas.Grind.{flat_map-append}
use Rattle.std.proofs.lemmas.List.{append-nil}
use Rattle.std.proofs.lemmas.Str.{IsUtf8-nil, IsUtf8-append, IsUtf8-from_ascii}
use Rattle.std.proofs.lemmas.Str.Ascii.{IsAscii-nil, IsAscii-cons}
use Rattle.fn_tree.specs.Canonical.{escaped, quoted}
use Rattle.fn_tree.specs.Lexemes.{begins}
use Rattle.fn_tree.specs.LexemeValues.{slice_of, text_of, string_value}
use Rattle.fn_tree.specs.declared.begin.Begin.TheVariants.{Token}
use Rattle.fn_tree.specs.declared.lexeme.Lexeme.{Lexeme}
use Rattle.fn_tree.specs.declared.lexeme.Terminal.{Terminal}
use Rattle.fn_tree.specs.declared.lexeme.Terminal.TheVariants.{Name, Integer, Str, Word as Reserved, Mark as Marked}
use Rattle.fn_tree.proofs.Again.{IsGap}
use Rattle.fn_tree.proofs.Characters.{plain_in_string}
use Rattle.fn_tree.proofs.Relexed.{spelled_as, spelled, LaidOut}
use Rattle.fn_tree.proofs.Relexed.LaidOut.{nothing_laid, laid}
use Rattle.fn_tree.proofs.TokenTexts.{token_utf8, text_whole}

two_ascii : (a b : ℕ) → a < 128 → b < 128 → IsUtf8 (a ∷ b ∷ [])
two_ascii a b h k = IsUtf8-from_ascii (a ∷ b ∷ []) (IsAscii-cons a (b ∷ []) h (IsAscii-cons b [] k IsAscii-nil))

one_ascii : (a : ℕ) → a < 128 → IsUtf8 (a ∷ [])
one_ascii a h = IsUtf8-from_ascii (a ∷ []) (IsAscii-cons a [] h IsAscii-nil)

unlike : (a b : ℕ) → eqb a b ≡ false → a ≡ b → ⊥
unlike a b e f = elim (eqb_tells a b) [ inl t ↦ absurd (let g = rw t.0 at e in cc) | inr t ↦ absurd (t.1 f) ]

one_char : (c : ℕ) → scalar c ≡ true → IsUtf8 (encode c)
one_char c good = (c ∷ [], (rw good refl, append-nil (encode c)))

-- a character as it is written in a string
char_utf8 : (c : ℕ) → scalar c ≡ true → IsUtf8 (flat_map escaped (encode c))
unfolding encode
char_utf8 c good = elim (eqb_tells c 34) [
  | inl t ↦ rw t.1 (two_ascii 92 34 (omega arith) (omega arith))
  | inr t ↦ elim (eqb_tells c 92) [
    | inl u ↦ rw u.1 (two_ascii 92 92 (omega arith) (omega arith))
    | inr u ↦ elim (eqb_tells c 10) [
      | inl v ↦ rw v.1 (two_ascii 92 110 (omega arith) (omega arith))
      | inr v ↦ elim (eqb_tells c 9) [
        | inl w ↦ rw w.1 (two_ascii 92 116 (omega arith) (omega arith))
        | inr w ↦ subst IsUtf8 (sym (plain_in_string c t.1 u.1 v.1 w.1)) (one_char c good)
      ]
    ]
  ]
]

and_left : (a b : Bool) → (a && b) ≡ true → a ≡ true
and_left true b h = refl
and_left false b h = cc

and_right : (a b : Bool) → (a && b) ≡ true → b ≡ true
and_right true b h = h
and_right false b h = cc

chars_utf8 : (cs : List ℕ) → scalars cs ≡ true → IsUtf8 (flat_map escaped (encodes cs))
chars_utf8 [] h = IsUtf8-nil
chars_utf8 (c ∷ cs) h =
    subst IsUtf8 (sym (flat_map-append escaped (encode c) (encodes cs)))
    (IsUtf8-append (flat_map escaped (encode c)) (flat_map escaped (encodes cs)) (char_utf8 c (and_left (scalar c) (scalars cs) h)) (chars_utf8 cs (and_right (scalar c) (scalars cs) h)))

quoted_utf8 : (v : List ℕ) → IsUtf8 v → IsUtf8 (quoted v)
quoted_utf8 v u =
    let inside : IsUtf8 (flat_map escaped v) = subst (λ x. IsUtf8 (flat_map escaped x)) u.1.1 (chars_utf8 u.0 u.1.0) in
    IsUtf8-append (34 ∷ []) (flat_map escaped v ++ 34 ∷ []) (one_ascii 34 (omega arith)) (IsUtf8-append (flat_map escaped v) (34 ∷ []) inside (one_ascii 34 (omega arith)))

spelled_utf8 : (t : Terminal) (bs : List ℕ) → IsUtf8 bs → IsUtf8 (string_value bs) → IsUtf8 (spelled_as t bs)
spelled_utf8 Str bs u v = quoted_utf8 (text_of (string_value bs)) (subst IsUtf8 (sym (text_whole (string_value bs) v)) v)
spelled_utf8 Name bs u v = u
spelled_utf8 Integer bs u v = u
spelled_utf8 (Reserved w) bs u v = u
spelled_utf8 (Marked m) bs u v = u

-- a token as it is spelled
pub token_spelled_utf8 : (s : List ℕ) (c : Lexeme) → IsUtf8 s → begins (drop c.at s) ≡ Token c.terminal c.len → IsUtf8 (spelled s c)
token_spelled_utf8 s c u e = let b = token_utf8 s c u e in spelled_utf8 c.terminal (slice_of s c) b.0 b.1

abbrev pub AllUtf8 : List ℕ → List Lexeme → Type 0
AllUtf8 s [] = Unit {0}
AllUtf8 s (c ∷ cs) = IsUtf8 (spelled s c) × AllUtf8 s cs

gap_utf8 : (g : ℕ) → IsGap g → IsUtf8 (g ∷ [])
gap_utf8 g (inl e) = one_ascii g (omega arith)
gap_utf8 g (inr e) = one_ascii g (omega arith)

-- tokens laid out
pub laid_utf8 : {s : List ℕ} {cs : List Lexeme} {text : List ℕ} → LaidOut s cs text → AllUtf8 s cs → IsUtf8 text
laid_utf8 nothing_laid u = IsUtf8-nil
laid_utf8 {s = s} (laid {c = c} {text = text} g gap l) u =
    IsUtf8-append (spelled s c) (g ∷ text) u.0 (IsUtf8-append (g ∷ []) text (gap_utf8 g gap) (laid_utf8 l u.1))
