-- Reading the id whose text a key is the key of.
use Rattle.std.specs.Prelude.{ℕ, zero, suc, ◌+◌, ◌*◌, ◌<◌, ◌^◌, ◌==◌, if◌then◌else◌, List, [], ◌∷◌, Option, Some, None, option_and_then, nat_eq}
use Rattle.std.specs.Cmp.Lexicographic.{pointwise}
use Rattle.cv_values.specs.Ids.{digit_value}
use Rattle.cv_values.specs.declared.ids.DocId.{DocId}

-- the fields of the id fit its types
abbrev pub IsId : DocId → Type 0
IsId id = (id.table < 2 ^ 16) × (id.session < 2 ^ 128) × (id.request < 2 ^ 32) × (id.ordinal < 2 ^ 16)

-- n with so many digits after it, and what follows them
abbrev pub read_digits : ℕ → ℕ → List ℕ → Option (ℕ × List ℕ)
read_digits zero n bytes = Some (n, bytes)
read_digits (suc width) n [] = None
read_digits (suc width) n (c ∷ bytes) = option_and_then (λ d. read_digits width (n * 16 + d) bytes) (digit_value c)

-- the id of these digits, where the end of a string follows them
abbrev pub id_from : List ℕ → Option DocId
id_from bytes = option_and_then (λ table. option_and_then (λ session. option_and_then (λ request. option_and_then (λ ordinal.
    if pointwise nat_eq ordinal.1 (0 ∷ 1 ∷ []) then Some (record { table = table.0; session = session.0; request = request.0; ordinal = ordinal.0 }) else None)
    (read_digits 4 0 request.1)) (read_digits 8 0 session.1)) (read_digits 32 0 table.1)) (read_digits 4 0 bytes)

abbrev pub id_in : List ℕ → Option DocId
id_in [] = None
id_in (c ∷ bytes) = if c == 6 then id_from bytes else None
