-- Bytes as texts.
use Rattle.std.proofs.Common.{◌≡◌, ℕ, ◌<◌, List, [], length, eq-eqb, inl, inr, arith}
use Rattle.std.specs.Str.Lossy.{utf8_valid_len}
use Rattle.std.proofs.lemmas.Bool.Decides.{eqb_tells}
use Rattle.fn_tree.specs.LexemeValues.{text_of}

-- bytes that are UTF-8 are a text
pub text_whole : (bs : List ℕ) → utf8_valid_len bs ≡ length bs → text_of bs ≡ bs
unfolding text_of
text_whole bs h = rw (eq-eqb (utf8_valid_len bs) (length bs) h)

-- bytes that stop being UTF-8 are an empty text
pub text_none : (bs : List ℕ) → utf8_valid_len bs < length bs → text_of bs ≡ []
unfolding text_of
text_none bs h = elim (eqb_tells (utf8_valid_len bs) (length bs)) [ inl t ↦ absurd (omega (arith, t.1)) | inr t ↦ rw t.0 ]
