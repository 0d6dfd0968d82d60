-- Hexadecimal digits in keys.
use Rattle.std.proofs.Common.{◌≡◌, ℕ, zero, suc, ◌-◌, ◌*◌, ◌/◌, ◌%◌, ◌^◌, ◌<◌, List, [], ◌∷◌, ◌++◌, length, refl, ap, ◌∙◌, append_assoc, append-nil, length-append, min, arith}
use Rattle.std.proofs.lemmas.Bool.Decides.{nat_tests}
use Rattle.cv_values.specs.Ids.{digit, hex_of, id_text}
use Rattle.cv_values.specs.declared.ids.DocId.{DocId}
use Rattle.cv_keys.specs.KeyBytes.{escaped, text_key}
use Rattle.cv_keys.specs.Meets.{id_end}

pub length-hex_of : (width n : ℕ) → length (hex_of width n) ≡ width
unfolding hex_of
length-hex_of zero n = refl
length-hex_of (suc width) n = omega (arith, length-hex_of width n)

digit_above : (d : ℕ) → 0 < digit d
digit_above d = grind (arith, nat_tests)

pub escaped_above : (b : ℕ) (s : List ℕ) → 0 < b → escaped (b ∷ s) ≡ b ∷ escaped s
escaped_above zero s h = absurd (omega arith)
escaped_above (suc b) s h = refl

-- digits need no escape
pub escaped-hex_of : (width n : ℕ) (s : List ℕ) → escaped (hex_of width n ++ s) ≡ hex_of width n ++ escaped s
unfolding hex_of
escaped-hex_of zero n s = refl
escaped-hex_of (suc width) n s =
    let d = digit (n / 2 ^ (4 * width) % 16) in
    escaped_above d (hex_of width n ++ s) (digit_above (n / 2 ^ (4 * width) % 16)) ∙ ap (λ r. d ∷ r) (escaped-hex_of width n s)

pub id_key : (id : DocId) → text_key (id_text id) ≡ 6 ∷ id_end id
id_key id =
    let a = hex_of 4 id.table in
    let b = hex_of 32 id.session in
    let c = hex_of 8 id.request in
    let d = hex_of 4 id.ordinal in
    let flat : id_text id ≡ a ++ (b ++ (c ++ (d ++ []))) = simp (append_assoc, append-nil) in
    ap text_key flat
    ∙ ap (λ r. 6 ∷ r) (escaped-hex_of 4 id.table (b ++ (c ++ (d ++ [])))
    ∙ ap (λ r. a ++ r) (escaped-hex_of 32 id.session (c ++ (d ++ []))
    ∙ ap (λ r. b ++ r) (escaped-hex_of 8 id.request (d ++ [])
    ∙ ap (λ r. c ++ r) (escaped-hex_of 4 id.ordinal []))))

pub length-id_key : (id : DocId) → length (text_key (id_text id)) ≡ 51
length-id_key id =
    let a = hex_of 4 id.table in
    let b = hex_of 32 id.session in
    let c = hex_of 8 id.request in
    let d = hex_of 4 id.ordinal in
    ap length (id_key id)
    ∙ omega (
      arith,
      length-append a (b ++ (c ++ (d ++ (0 ∷ 1 ∷ [])))),
      length-append b (c ++ (d ++ (0 ∷ 1 ∷ []))),
      length-append c (d ++ (0 ∷ 1 ∷ [])),
      length-append d (0 ∷ 1 ∷ []),
      length-hex_of 4 id.table,
      length-hex_of 32 id.session,
      length-hex_of 8 id.request,
      length-hex_of 4 id.ordinal,
    )

pub id_key_fits : (id : DocId) → 51 ≡ min (length (text_key (id_text id))) (2 ^ 64 - 1)
id_key_fits id = omega (arith, length-id_key id)
