-- Which texts are the texts of ids.
use Rattle.std.specs.Prelude.{◌≡◌, ℕ, ◌<◌, ◌^◌, List, Some, length, Bool, ◌&&◌, ◌==◌, is_some}
use Rattle.std.specs.List.{list_all}
use Rattle.cv_values.specs.Ids.{id_text, read_id, digit_value}
use Rattle.cv_values.specs.declared.ids.DocId.{DocId}

-- the parts of an id are numbers of 16, 128, 32 and 16 bits
pub record IsId (id : DocId) : Type 0 where
  pub table : id.table < 2 ^ 16
  pub session : id.session < 2 ^ 128
  pub request : id.request < 2 ^ 32
  pub ordinal : id.ordinal < 2 ^ 16

-- the text of an id is read as that id
abbrev pub IdsAreReadBack : Type 0
IdsAreReadBack = (id : DocId) → IsId id → read_id (id_text id) ≡ Some id

-- what is read as an id is its text
abbrev pub OnlyTextsAreRead : Type 0
OnlyTextsAreRead = (text : List ℕ) (id : DocId) → read_id text ≡ Some id → id_text id ≡ text

-- 48 lower-case hexadecimal digits
abbrev pub is_id_text : List ℕ → Bool
is_id_text text = (length text == 48) && list_all (λ c. is_some (digit_value c)) text

-- exactly these are read
abbrev pub DigitsAreRead : Type 0
DigitsAreRead = (text : List ℕ) → is_some (read_id text) ≡ is_id_text text
