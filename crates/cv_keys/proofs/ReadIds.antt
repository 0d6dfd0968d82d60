-- The id that is read is the one whose text was written.
use Rattle.std.proofs.Common.{◌≡◌, ℕ, ◌+◌, ◌*◌, ◌%◌, ◌^◌, Bool, true, false, List, [], ◌∷◌, ◌++◌, Option, Some, None, refl, ap, sym, ◌∙◌, arith, IfSome, IfNone}
use Rattle.std.proofs.lemmas.Bool.{eqb-true}
use Rattle.std.proofs.lemmas.Option.{option_and_then_some}
use Rattle.std.specs.Cmp.Lexicographic.{pointwise, same_text}
use Rattle.std.specs.Prelude.{◌==◌, nat_eq, if◌then◌else◌, unwrap_or}
use Rattle.cv_values.specs.Ids.{hex_of, id_text}
use Rattle.cv_values.specs.declared.ids.DocId.{DocId}
use Rattle.cv_keys.specs.KeyBytes.{text_key}
use Rattle.cv_keys.specs.KeyIds.{IsId, read_digits, id_from, id_in}
use Rattle.cv_keys.specs.Meets.{id_end}
use Rattle.cv_keys.proofs.Hex.{id_key}
use Rattle.cv_keys.proofs.ReadHex.{read_whole, read_digits-hex_of}

if_some : {A P : Type 0} (b : Bool) (x y : A) → (if b then Some x else None) ≡ Some y → (b ≡ true → x ≡ y → P) → P
if_some true x y e k = k refl (ap (λ o. unwrap_or o x) e)
if_some false x y e k = cc

if_then : {A P : Type 0} (b : Bool) (o : Option A) (y : A) → (if b then o else None) ≡ Some y → (b ≡ true → o ≡ Some y → P) → P
if_then true o y e k = k refl e
if_then false o y e k = cc

id_from_sound : (bytes : List ℕ) (id : DocId) → id_from bytes ≡ Some id → bytes ≡ id_end id
id_from_sound bytes id e =
    option_and_then_some _ (read_digits 4 0 bytes) id e (λ table e₁ f₁.
    option_and_then_some _ (read_digits 32 0 table.1) id f₁ (λ session e₂ f₂.
    option_and_then_some _ (read_digits 8 0 session.1) id f₂ (λ request e₃ f₃.
    option_and_then_some _ (read_digits 4 0 request.1) id f₃ (λ ordinal e₄ f₄.
    if_some (pointwise nat_eq ordinal.1 (0 ∷ 1 ∷ [])) _ id f₄ (λ last same.
    (read_whole 4 bytes table.0 table.1 e₁).1
    ∙ ap (λ r. hex_of 4 table.0 ++ r) ((read_whole 32 table.1 session.0 session.1 e₂).1
    ∙ ap (λ r. hex_of 32 session.0 ++ r) ((read_whole 8 session.1 request.0 request.1 e₃).1
    ∙ ap (λ r. hex_of 8 request.0 ++ r) ((read_whole 4 request.1 ordinal.0 ordinal.1 e₄).1
    ∙ ap (λ r. hex_of 4 ordinal.0 ++ r) (same_text ordinal.1 (0 ∷ 1 ∷ []) (sym last)))))
    ∙ ap id_end same)))))

pub id_in_sound : (bytes : List ℕ) (id : DocId) → id_in bytes ≡ Some id → bytes ≡ text_key (id_text id)
id_in_sound [] id e = cc
id_in_sound (c ∷ bytes) id e =
    if_then (c == 6) (id_from bytes) id e (λ six some. ap (λ x. x ∷ bytes) (eqb-true c 6 six) ∙ ap (λ r. 6 ∷ r) (id_from_sound bytes id some) ∙ sym (id_key id))

-- the id whose fields are cut to their widths
abbrev cut_id : DocId → DocId
cut_id id = record { table = 0 * 16 ^ 4 + id.table % 16 ^ 4; session = 0 * 16 ^ 32 + id.session % 16 ^ 32; request = 0 * 16 ^ 8 + id.request % 16 ^ 8; ordinal = 0 * 16 ^ 4 + id.ordinal % 16 ^ 4 }

id_from_written : (id : DocId) → id_from (id_end id) ≡ Some (cut_id id)
id_from_written id = rw (read_digits-hex_of 4 0 id.table) (rw (read_digits-hex_of 32 0 id.session) (rw (read_digits-hex_of 8 0 id.request) (rw (read_digits-hex_of 4 0 id.ordinal) refl)))

cut_is : (id : DocId) → IsId id → cut_id id ≡ id
cut_is id h =
    let table : 0 * 16 ^ 4 + id.table % 16 ^ 4 ≡ id.table = omega (arith, h.0) in
    let session : 0 * 16 ^ 32 + id.session % 16 ^ 32 ≡ id.session = omega (arith, h.1) in
    let request : 0 * 16 ^ 8 + id.request % 16 ^ 8 ≡ id.request = omega (arith, h.2) in
    let ordinal : 0 * 16 ^ 4 + id.ordinal % 16 ^ 4 ≡ id.ordinal = omega (arith, h.3) in
    λ i. record { table = table i; session = session i; request = request i; ordinal = ordinal i }

-- what is read of an id's key
pub read_of_key : (key : List ℕ) (id : DocId) → key ≡ text_key (id_text id) → id_in key ≡ Some (cut_id id)
read_of_key key id e = ap id_in (e ∙ id_key id) ∙ id_from_written id

pub no_id : (key : List ℕ) → id_in key ≡ None → (id : DocId) → key ≡ text_key (id_text id) → ⊥
no_id key none id e = let r = read_of_key key id e in cc

pub one_id : (key : List ℕ) (id : DocId) → id_in key ≡ Some id → (other : DocId) → IsId other → key ≡ text_key (id_text other) → other ≡ id
one_id key id some other h e =
    let r : Some (cut_id other) ≡ Some id = sym (read_of_key key other e) ∙ some in
    sym (cut_is other h) ∙ ap (λ o. unwrap_or o other) r

pub if_some_id : (key : List ℕ) (o : Option DocId) → o ≡ id_in key → IfSome o (λ id. key ≡ text_key (id_text id))
if_some_id key None e = tt
if_some_id key (Some id) e = id_in_sound key id (sym e)

pub if_some_one : (key : List ℕ) (o : Option DocId) → o ≡ id_in key → IfSome o (λ id. (other : DocId) → IsId other → key ≡ text_key (id_text other) → other ≡ id)
if_some_one key None e = tt
if_some_one key (Some id) e = one_id key id (sym e)

pub if_none_id : (key : List ℕ) (o : Option DocId) → o ≡ id_in key → IfNone o ((id : DocId) → key ≡ text_key (id_text id) → ⊥)
if_none_id key None e = no_id key (sym e)
if_none_id key (Some id) e = tt
