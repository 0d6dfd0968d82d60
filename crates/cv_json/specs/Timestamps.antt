-- The text of a timestamp.
use Rattle.std.specs.Prelude.{ℕ, List, Option, option_map}
use Rattle.std.specs.Int.{w64, to_le_bytes, from_le_bytes}
use Rattle.cv_json.specs.Base64.{base64_text, eight_bytes_of}

-- the base64 text of the eight bytes of a timestamp, the lowest first
abbrev pub ts_text : ℕ → List ℕ
ts_text ts = base64_text (to_le_bytes w64 ts)

-- the timestamp that a text is the text of
abbrev pub read_ts : List ℕ → Option ℕ
read_ts text = option_map (from_le_bytes w64) (eight_bytes_of text)
