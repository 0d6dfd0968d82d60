-- Base64 texts: the standard alphabet with its padding, in the one spelling that encoding gives.
use Rattle.std.specs.Prelude.{ℕ, ◌==◌, if◌then◌else◌, List, length, Option, Some, None, option_and_then}
use Rattle.std.specs.Result.{result_ok}
use Rattle.base64.specs.Engines.{standard}
use Rattle.base64.specs.GeneralPurpose.{encode_of, decode_of}

-- the text of bytes
abbrev pub base64_text : List ℕ → List ℕ
base64_text bs = encode_of standard bs

-- the bytes that a text is the text of
abbrev pub bytes_of : List ℕ → Option (List ℕ)
bytes_of text = result_ok (decode_of standard text)

-- bytes, where they are eight
abbrev pub eight : List ℕ → Option (List ℕ)
eight bs = if length bs == 8 then Some bs else None

-- the eight bytes that a text is the text of
abbrev pub eight_bytes_of : List ℕ → Option (List ℕ)
eight_bytes_of text = option_and_then eight (bytes_of text)
