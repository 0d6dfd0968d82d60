-- A string is read again of its canonical text.
use Rattle.std.proofs.Common.{◌≡◌, ℕ, suc, ◌+◌, ◌≤◌, List, [], ◌∷◌, ◌++◌, length, take, Bool, true, false, ◌||◌, refl, sym, ap, subst, ◌⊎◌, inl, inr, arith, eqb, append_assoc, length-append}
use Rattle.std.specs.Prelude.{nat_lt, Option, Some, None, if◌then◌else◌}
use Rattle.std.specs.List.{flat_map}
use Rattle.std.specs.Option.{option_map}
use Rattle.std.proofs.lemmas.Bool.Decides.{eqb_tells, leb_tells}
use Rattle.fn_tree.specs.Canonical.{escaped, quoted}
use Rattle.fn_tree.specs.LexemeValues.{contents, unescaped, string_value}
use Rattle.fn_tree.specs.Lexemes.{begins, string_begin, string_len, is_escape}
use Rattle.fn_tree.specs.declared.begin.Begin.TheVariants.{Token}
use Rattle.fn_tree.specs.declared.lexeme.Terminal.TheVariants.{Str}

-- a byte that a string can say: a line feed, a tab or none that controls
abbrev pub Sayable : ℕ → Type 0
Sayable b = (b ≡ 10) ⊎ ((b ≡ 9) ⊎ (32 ≤ b))

abbrev pub AllSayable : List ℕ → Type 0
AllSayable [] = Unit {0}
AllSayable (b ∷ bs) = Sayable b × AllSayable bs

-- how a byte is written, by what it is
data Written : ℕ → Type 0 where
  quote : Written 34
  slash : Written 92
  line_feed : Written 10
  tab : Written 9
  plain : {b : ℕ} → eqb b 34 ≡ false → eqb b 92 ≡ false → eqb b 10 ≡ false → eqb b 9 ≡ false → Written b

written : (b : ℕ) → Written b
written b = elim (eqb_tells b 34) [
  | inl t ↦ subst Written (sym t.1) quote
  | inr t ↦ elim (eqb_tells b 92) [
    | inl u ↦ subst Written (sym u.1) slash
    | inr u ↦ elim (eqb_tells b 10) [
      | inl v ↦ subst Written (sym v.1) line_feed
      | inr v ↦ elim (eqb_tells b 9) [
        | inl w ↦ subst Written (sym w.1) tab
        | inr w ↦ plain t.0 u.0 v.0 w.0
      ]
    ]
  ]
]

-- what is said of a byte as it is written
said_byte : {b : ℕ} (more : List ℕ) → Written b → contents false (escaped b ++ more) ≡ b ∷ contents false more
said_byte more quote = refl
said_byte more slash = refl
said_byte more line_feed = refl
said_byte more tab = refl
said_byte more (plain q s l t) = rw (q, s, l, t, q, s)

said_again : (v more : List ℕ) → contents false (flat_map escaped v ++ 34 ∷ more) ≡ v
said_again [] more = refl
said_again (b ∷ bs) more =
    rw (append_assoc (escaped b) (flat_map escaped bs) (34 ∷ more), said_byte (flat_map escaped bs ++ 34 ∷ more) (written b), said_again bs more)

-- a text that is written as a string says itself
pub value_again : (v : List ℕ) → string_value (quoted v) ≡ v
value_again v = said_again v []

-- a byte that is written as it is doesn't control
plain_high : (b : ℕ) → Sayable b → eqb b 10 ≡ false → eqb b 9 ≡ false → nat_lt b 32 ≡ false
plain_high b (inl e) l t = absurd (let f = rw e at l in cc)
plain_high b (inr (inl e)) l t = absurd (let f = rw e at t in cc)
plain_high b (inr (inr h)) l t = elim (leb_tells (suc b) 32) [ inl u ↦ absurd (omega (arith, u.1)) | inr u ↦ u.0 ]

-- the length of a byte as it is written, and of what follows it
long_byte : {b : ℕ} (more : List ℕ) (n : ℕ) → Sayable b → Written b → string_len false more ≡ Some n → string_len false (escaped b ++ more) ≡ Some (length (escaped b) + n)
long_byte more n s quote e = rw e (ap Some (omega arith))
long_byte more n s slash e = rw e (ap Some (omega arith))
long_byte more n s line_feed e = rw e (ap Some (omega arith))
long_byte more n s tab e = rw e (ap Some (omega arith))
long_byte {b = b} more n s (plain q w l t) e = rw (q, w, l, t, q, plain_high b s l t, w, e) (ap Some (omega arith))

long_again : (v more : List ℕ) → AllSayable v → string_len false (flat_map escaped v ++ 34 ∷ more) ≡ Some (length (flat_map escaped v ++ 34 ∷ []))
long_again [] more h = refl
long_again (b ∷ bs) more h =
    let rest : List ℕ = flat_map escaped bs in
    let byte = long_byte (rest ++ 34 ∷ more) (length (rest ++ 34 ∷ [])) h.0 (written b) (long_again bs more h.1) in
    rw (append_assoc (escaped b) rest (34 ∷ more), append_assoc (escaped b) rest (34 ∷ []), length-append (escaped b) (rest ++ 34 ∷ [])) byte

-- a text that a string can say is read again as it is written, whatever follows
pub string_again : (v more : List ℕ) → AllSayable v → begins (quoted v ++ more) ≡ Token Str (length (quoted v))
unfolding begins string_begin
string_again v more h =
    rw (append_assoc (flat_map escaped v) (34 ∷ []) more, long_again v more h) (ap (Token Str) (omega arith))

-- ---- what strings say

next_some : (test : Bool) (x : Option ℕ) (n : ℕ) → (if test then option_map (λ n. n + 1) x else None) ≡ Some n → (test ≡ true) × (k : ℕ) × (x ≡ Some k) × (n ≡ suc k)
next_some true (Some k) n e = (refl, k, refl, let f : k + 1 ≡ n = cc in omega arith)
next_some true None n e = absurd (cc)
next_some false x n e = absurd (cc)

one_of_four : (a b c d : Bool) → (((a || b) || c) || d) ≡ true → (a ≡ true) ⊎ ((b ≡ true) ⊎ ((c ≡ true) ⊎ (d ≡ true)))
one_of_four true b c d h = inl refl
one_of_four false true c d h = inr (inl refl)
one_of_four false false true d h = inr (inr (inl refl))
one_of_four false false false d h = inr (inr (inr h))

is_byte : (b c : ℕ) → eqb b c ≡ true → b ≡ c
is_byte b c h = elim (eqb_tells b c) [ inl t ↦ t.1 | inr t ↦ absurd (let f = rw t.0 at h in cc) ]

escape_sayable : (b : ℕ) → is_escape b ≡ true → Sayable (unescaped b)
escape_sayable b h = elim (one_of_four (eqb b 34) (eqb b 92) (eqb b 110) (eqb b 116) h) [
  | inl t ↦ subst (λ x. Sayable (unescaped x)) (sym (is_byte b 34 t)) (inr (inr (omega arith)))
  | inr (inl t) ↦ subst (λ x. Sayable (unescaped x)) (sym (is_byte b 92 t)) (inr (inr (omega arith)))
  | inr (inr (inl t)) ↦ subst (λ x. Sayable (unescaped x)) (sym (is_byte b 110 t)) (inl refl)
  | inr (inr (inr t)) ↦ subst (λ x. Sayable (unescaped x)) (sym (is_byte b 116 t)) (inr (inl refl))
]

-- the bytes up to a string's end say what a string can say
pub said_sayable : (slash : Bool) (bs : List ℕ) (n : ℕ) → string_len slash bs ≡ Some n → AllSayable (contents slash (take n bs))
said_sayable true [] n e = absurd (cc)
said_sayable false [] n e = absurd (cc)
said_sayable true (b ∷ bs) n e =
    let x = next_some (is_escape b) (string_len false bs) n e in
    rw x.3 (escape_sayable b x.0, said_sayable false bs x.1 x.2)
said_sayable false (b ∷ bs) n e = plain_sayable (eqb b 34) (nat_lt b 32) (eqb b 92) refl refl refl e (λ slash k f. said_sayable slash bs k f)
  where
    plain_sayable : (q c s : Bool) → eqb b 34 ≡ q → nat_lt b 32 ≡ c → eqb b 92 ≡ s → (if q then Some 1 else (if c then None else option_map (λ n. n + 1) (string_len s bs))) ≡ Some n
        → ((slash : Bool) (k : ℕ) → string_len slash bs ≡ Some k → AllSayable (contents slash (take k bs))) → AllSayable (contents false (take n (b ∷ bs)))
    plain_sayable true c s q l w f ih = let k : n ≡ 1 = cc in rw (k, q) tt
    plain_sayable false true s q l w f ih = absurd (cc)
    plain_sayable false false true q l w f ih = let x = next_some true (string_len true bs) n f in rw (x.3, q, w) (ih true x.1 x.2)
    plain_sayable false false false q l w f ih =
        let x = next_some true (string_len false bs) n f in
        let high : 32 ≤ b = elim (leb_tells (suc b) 32) [ inl t ↦ absurd (let g = rw t.0 at l in cc) | inr t ↦ omega (arith, t.1) ] in
        rw (x.3, q, w) (inr (inr high), ih false x.1 x.2)
