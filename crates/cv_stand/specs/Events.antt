-- What the lines of a script ask for: a moment of the clock, the run of a mutation, or the log.
use Rattle.std.specs.Prelude.{ℕ, ◌+◌, ◌^◌, ℤ, pos, neg_ℤ, List, [], ◌∷◌, drop, ◌&&◌, ◌==◌, nat_lt, nat_le, if◌then◌else◌, length, slice_index, Option, Some, None, codes, option_and_then}
use Rattle.std.specs.Option.{option_map}
use Rattle.std.specs.Result.{result_ok}
use Rattle.std.specs.Int.{w128, from_be_bytes}
use Rattle.std.specs.Str.{bytes_eq}
use Rattle.std.specs.Str.Lossy.{utf8_valid_len}
use Rattle.uuid.specs.Text.{parsed}
use Rattle.serde_json.specs.Read.{read as json_read}
use Rattle.cv_json.specs.Reads.{read}
use Rattle.cv_values.specs.Value.{Value, object, pairs_of}
use Rattle.cv_stand.specs.Lines.{text_of}
use Rattle.cv_stand.specs.ScriptLine.{cut_word, number_of, request_number, Words, words_of}

-- a call of a mutation, whatever the clock reads
pub record Request : Type 0 where
  pub session : ℕ
  pub request : ℕ
  pub udf : List ℕ
  pub args : List (List ℕ × Value)

pub data Event : Type 0 where
  -- the clock reads this moment from then on
  sets_clock : ℤ → Event
  -- the mutation is run, or the reply that was kept is told
  calls : Request → Event
  -- all entries are told
  tells_log : Event

-- ---- a line that sets the clock

-- the number, where it is one of 64 bits with a sign
abbrev pub at_least_zero : ℕ → Option ℤ
at_least_zero n = if nat_lt n (2 ^ 63) then Some (pos n) else None

-- the number below zero, where it is one of 64 bits with a sign
abbrev pub below_zero : ℕ → Option ℤ
below_zero n = if nat_lt 0 n && nat_le n (2 ^ 63) then Some (neg_ℤ (pos n)) else None

-- a moment in decimal, without leading zeros and with `-` before one below zero; `-0` is none
abbrev pub moment_of : List ℕ → Option ℤ
moment_of w = if nat_lt 0 (length w) && (slice_index w 0 == 45) then option_and_then below_zero (number_of (drop 1 w)) else option_and_then at_least_zero (number_of w)

-- the moment of a line `clock <n>`
abbrev pub clock_of : List ℕ → Option ℤ
clock_of s = option_and_then (λ w. if bytes_eq w.0 (codes "clock") then moment_of w.1 else None) (cut_word s)

-- ---- a line that calls a function

-- the fields of an object
abbrev pub fields_of : Value → Option (List (List ℕ × Value))
fields_of (object ms) = Some (pairs_of ms)
fields_of v = None

-- the arguments that a text says: JSON of an object that is read as an object
abbrev pub arguments_of : List ℕ → Option (List (List ℕ × Value))
arguments_of text = option_and_then (λ d. option_and_then fields_of (result_ok (read d))) (json_read text)

-- the request that some words make; the path is no empty word
abbrev pub request_from : Words → Option Request
request_from w =
    option_and_then (λ session. option_and_then (λ request. option_and_then (λ args.
    if length w.udf == 0 then None else Some (record { session = from_be_bytes w128 session; request = request; udf = w.udf; args = args }))
    (arguments_of w.json)) (request_number w.request)) (parsed w.session)

-- ---- a line

-- what a line says: nothing, an event, or what no script may say
pub data Said : Type 0 where
  nothing : Said
  says : Event → Said
  refused : Said

-- an event, and else a bad line
abbrev pub says_event : Option Event → Said
says_event None = refused
says_event (Some e) = says e

-- the first of two that is there
abbrev pub or_else : Option Event → Option Event → Option Event
or_else None b = b
or_else (Some e) b = Some e

-- the event of a line that is text and isn't empty
abbrev pub event_in : List ℕ → Option Event
event_in line =
    if bytes_eq line (codes "log") then Some tells_log
    else or_else (option_map sets_clock (clock_of line)) (option_map calls (option_and_then request_from (words_of line)))

-- what a line says, without its end; one that isn't UTF-8 is bad
abbrev pub said : List ℕ → Said
said line = if length line == 0 then nothing else (if utf8_valid_len line == length line then says_event (event_in line) else refused)

-- ---- a script

-- the events of the lines before the first bad one, each with its line's number, and the number of that line
pub record Script : Type 0 where
  pub events : List (ℕ × Event)
  pub bad : Option ℕ

-- a line with this number before the rest of a script
abbrev pub with_line : Said → ℕ → Script → Script
with_line nothing n rest = rest
with_line (says e) n rest = record rest { events = (n, e) ∷ rest.events }
with_line refused n rest = record { events = []; bad = Some n }

-- the script of some lines, the first of them with this number
abbrev pub script_of : ℕ → List (List ℕ) → Script
script_of n [] = record { events = []; bad = None }
script_of n (line ∷ lines) = with_line (said (text_of line)) n (script_of (n + 1) lines)
