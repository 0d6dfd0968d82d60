-- Decoding into a slice of eight bytes tells whether a text is that of eight bytes.
use Rattle.std.proofs.Common.{◌≡◌, ℕ, ◌+◌, ◌*◌, ◌==◌, ◌≤◌, Bool, false, cond, List, length, Option, Some, None, option_and_then, Result, Ok, Err, refl, sym, ap, ◌∙◌, arith, length-append, inl, inr}
use Rattle.std.proofs.lemmas.Bool.{cases_Bool, le-ltb, eqb-true}
use Rattle.std.specs.Result.{result_ok}
use Rattle.base64.proofs.Decoding.{length-groups_bytes}
use Rattle.base64.proofs.EngineFacts.{decode_of_strict}
use Rattle.base64.specs.Decode.{decode_outcome, groups_before_last, groups_bytes, or_else, or_error, bytes_fit, suffix_bytes}
use Rattle.base64.specs.Engines.{standard}
use Rattle.base64.specs.GeneralPurpose.{IsBytes, decode_of, decode_slice_of, decoded_bytes_of}
use Rattle.base64.specs.declared.decode.DecodeError.{DecodeError}
use Rattle.base64.specs.declared.decode.DecodeSliceError.{DecodeSliceError}
use Rattle.base64.specs.declared.decode.DecodeSliceError.TheVariants.{OutputSliceTooSmall}
use Rattle.cv_json.specs.Base64.{base64_text, eight, eight_bytes_of}

eight_some : (xs bs : List ℕ) → eight xs ≡ Some bs → (xs ≡ bs) × (length bs ≡ 8)
eight_some xs bs e = elim (cases_Bool (length xs == 8)) [
  | inl is ↦
      let same : xs ≡ bs = cc (rw is at e) in
      (same, ap length (sym same) ∙ eqb-true (length xs) 8 is)
  | inr isnt ↦ cc (rw isnt at e)
]

outcome_some : (r : Result (List ℕ) DecodeError) (bs : List ℕ) → option_and_then eight (result_ok r) ≡ Some bs → (r ≡ Ok bs) × (length bs ≡ 8)
outcome_some (Ok xs) bs e = let both = eight_some xs bs e in (ap Ok both.0, both.1)
outcome_some (Err x) bs e = cc e

-- what a text of eight bytes decodes to
pub eight_bytes_of-some : (text bs : List ℕ) → eight_bytes_of text ≡ Some bs → (decode_of standard text ≡ Ok bs) × (length bs ≡ 8)
eight_bytes_of-some text bs e = outcome_some (decode_of standard text) bs e

-- it is what encoding gives
pub eight_bytes_of-canonical : (text bs : List ℕ) → IsBytes text → eight_bytes_of text ≡ Some bs → text ≡ base64_text bs
eight_bytes_of-canonical text bs bytes e = decode_of_strict standard text bs (refl, refl) bytes (eight_bytes_of-some text bs e).0

-- what decodes has no error, alone or later, and so it goes into a slice that holds it
fits : (lone later : Option DecodeError) (many : Bool) (xs bs : List ℕ) → many ≡ false → decode_outcome (or_else lone later) xs ≡ Ok bs → length bs ≡ 8
    → or_error lone (cond many (Err OutputSliceTooSmall) (or_error later (bytes_fit (length xs) 8))) ≡ Ok 8
fits None None many xs bs few e n =
    let len : length xs ≡ 8 = ap length (let same : xs ≡ bs = cc e in same) ∙ n in
    rw (few, len) refl
fits None (Some x) many xs bs few e n = cc e
fits (Some x) later many xs bs few e n = cc e

decoded : (x : Option DecodeError) (xs bs : List ℕ) → decode_outcome x xs ≡ Ok bs → xs ≡ bs
decoded None xs bs e = cc e
decoded (Some x) xs bs e = cc e

-- decoding into eight bytes succeeds for it
pub decode_slice-eight : (text bs : List ℕ) → eight_bytes_of text ≡ Some bs → decode_slice_of standard text 8 ≡ Ok 8
decode_slice-eight text bs e =
    let both = eight_bytes_of-some text bs e in
    let dec = standard.decode_table in
    let q : ℕ = groups_before_last (length text) in
    let same : decoded_bytes_of standard text ≡ bs = decoded _ (decoded_bytes_of standard text) bs both.0 in
    let len : length (decoded_bytes_of standard text) ≡ 3 * q + length (suffix_bytes dec 61 (4 * q) text) =
    length-append (groups_bytes dec text q) (suffix_bytes dec 61 (4 * q) text) ∙ ap (λ (k : ℕ). k + length (suffix_bytes dec 61 (4 * q) text)) (length-groups_bytes dec text q) in
    let few : q ≤ 2 = omega (arith, both.1, ap length same, len) in
    fits _ _ _ (decoded_bytes_of standard text) bs (le-ltb 2 q few) both.0 both.1

pub eight_bytes_of-none : (text : List ℕ) (e : DecodeSliceError) → decode_slice_of standard text 8 ≡ Err e → eight_bytes_of text ≡ None
eight_bytes_of-none text e failed = none (eight_bytes_of text) refl
  where
    none : (o : Option (List ℕ)) → eight_bytes_of text ≡ o → o ≡ None
    none None same = refl
    none (Some bs) same = cc (sym (decode_slice-eight text bs same) ∙ failed)
