-- The message that a client's text is, or the first fault of the text.
use Rattle.std.specs.Prelude.{ℕ, ◌^◌, nat_lt, if◌then◌else◌, List, [], ◌∷◌, length, Option, Some, None, option_and_then, option_map, is_some, Result, Ok, Err, ok_or, codes}
use Rattle.std.specs.Int.{w128, from_be_bytes}
use Rattle.std.specs.Result.{result_ok}
use Rattle.std.specs.Str.{bytes_eq}
use Rattle.uuid.specs.Text.{parsed}
use Rattle.serde_json.specs.Data as json
use Rattle.serde_json.specs.Data.{Data, Items}
use Rattle.serde_json.specs.Find.{get, as_null, as_number, as_str, as_array, as_u64}
use Rattle.serde_json.specs.Read.{read as json_read}
use Rattle.cv_json.specs.Reads.{read}
use Rattle.cv_json.specs.Timestamps.{read_ts}
use Rattle.cv_values.specs.Value.{Value, object, pairs_of}
use Rattle.sync_msgs.specs.Causes.{field_name}
use Rattle.sync_msgs.specs.Messages.{Change, adds, removes, ClientMessage, connects, modifies, requests, notes}
use Rattle.sync_msgs.specs.declared.cause.Cause.{Cause}
use Rattle.sync_msgs.specs.declared.cause.Cause.TheVariants.{TooLong, BadJson, UnknownType, BadField}
use Rattle.sync_msgs.specs.declared.cause.FieldName.{FieldName}
use Rattle.sync_msgs.specs.declared.cause.FieldName.TheVariants.{Type_, SessionId, MaxObservedTimestamp, BaseVersion, NewVersion, Modifications, QueryId, UdfPath, Args, RequestId}

abbrev pub message_limit : ℕ
message_limit = 4194304

abbrev pub Arguments : Type 0
Arguments = List (List ℕ × Value)

-- ---- fields

-- goes on with what was read, unless that was a fault
abbrev pub and_then : {A B : Type 0} → Result A Cause → (A → Result B Cause) → Result B Cause
and_then (Ok a) f = f a
and_then (Err why) f = Err why

-- the field of this name, as something that can be read of it
abbrev pub field : {A : Type 0} → FieldName → (Data → Option A) → Data → Result A Cause
field name f d = ok_or (option_and_then f (get (field_name name) d)) (BadField name)

abbrev pub small : ℕ → Option ℕ
small n = if nat_lt n (2 ^ 32) then Some n else None

abbrev pub as_count : Data → Option ℕ
as_count d = option_and_then small (option_and_then as_u64 (as_number d))

abbrev pub as_session : Data → Option ℕ
as_session d = option_map (from_be_bytes w128) (option_and_then parsed (as_str d))

-- a timestamp, or null for none
abbrev pub as_observed : Data → Option (Option ℕ)
as_observed d = if is_some (as_null d) then Some None else option_map Some (option_and_then read_ts (as_str d))

-- a field that may be absent
abbrev pub observed_from : Option Data → Result (Option ℕ) Cause
observed_from None = Ok None
observed_from (Some d) = ok_or (as_observed d) (BadField MaxObservedTimestamp)

abbrev pub observed : Data → Result (Option ℕ) Cause
observed d = observed_from (get (field_name MaxObservedTimestamp) d)

abbrev pub fields_of : Value → Option Arguments
fields_of (object ms) = Some (pairs_of ms)
fields_of v = None

-- the fields of a tree that is read as an object
abbrev pub as_fields : Data → Option Arguments
as_fields d = option_and_then fields_of (result_ok (read d))

-- the one item of an array
abbrev pub only_item : Items → Option Data
only_item (json.item d json.no_items) = Some d
only_item ds = None

-- an array that holds one object
abbrev pub as_arguments : Data → Option Arguments
as_arguments d = option_and_then as_fields (option_and_then only_item (as_array d))

-- ---- changes

abbrev pub type_of : Data → Option (List ℕ)
type_of d = option_and_then as_str (get (field_name Type_) d)

abbrev pub add_of : Data → Result Change Cause
add_of d = and_then (field QueryId as_count d) (λ id. and_then (field UdfPath as_str d) (λ udf. and_then (field Args as_arguments d) (λ args. Ok (adds id (record { udf = udf; args = args })))))

abbrev pub remove_of : Data → Result Change Cause
remove_of d = and_then (field QueryId as_count d) (λ id. Ok (removes id))

abbrev pub change_of_type : List ℕ → Data → Result Change Cause
change_of_type name d = if bytes_eq name (codes "Add") then add_of d else (if bytes_eq name (codes "Remove") then remove_of d else Err (BadField Modifications))

abbrev pub change_of : Data → Result Change Cause
change_of d = and_then (ok_or (type_of d) (BadField Modifications)) (λ name. change_of_type name d)

abbrev pub changes_of : Items → Result (List Change) Cause
changes_of json.no_items = Ok []
changes_of (json.item d ds) = and_then (change_of d) (λ c. and_then (changes_of ds) (λ cs. Ok (c ∷ cs)))

-- ---- messages

abbrev pub connect_of : Data → Result ClientMessage Cause
connect_of d = and_then (field SessionId as_session d) (λ session. and_then (observed d) (λ ts. Ok (connects session ts)))

abbrev pub modify_of : Data → Result ClientMessage Cause
modify_of d =
    and_then (field BaseVersion as_count d) (λ base. and_then (field NewVersion as_count d) (λ next. and_then (field Modifications as_array d) (λ ds.
    and_then (changes_of ds) (λ cs. Ok (modifies base next cs)))))

abbrev pub mutation_of : Data → Result ClientMessage Cause
mutation_of d = and_then (field RequestId as_count d) (λ request. and_then (field UdfPath as_str d) (λ udf. and_then (field Args as_arguments d) (λ args. Ok (requests request udf args))))

abbrev pub message_of_type : List ℕ → Data → Result ClientMessage Cause
message_of_type name d =
    if bytes_eq name (codes "Connect") then connect_of d
    else (if bytes_eq name (codes "ModifyQuerySet") then modify_of d
    else (if bytes_eq name (codes "Mutation") then mutation_of d
    else (if bytes_eq name (codes "Event") then Ok notes
    else Err UnknownType)))

abbrev pub message_of : Data → Result ClientMessage Cause
message_of d = and_then (ok_or (type_of d) (BadField Type_)) (λ name. message_of_type name d)

abbrev pub message_in : Option Data → Result ClientMessage Cause
message_in None = Err BadJson
message_in (Some d) = message_of d

-- the message that a text is, or the first fault of it
abbrev pub read_message : List ℕ → Result ClientMessage Cause
read_message text = if nat_lt message_limit (length text) then Err TooLong else message_in (json_read text)
