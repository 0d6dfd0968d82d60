-- The JSON of what a server tells.
use Rattle.std.specs.Prelude.{ℕ, true, false, List, [], ◌∷◌, map, codes}
use Rattle.serde_json.specs.Data as json
use Rattle.serde_json.specs.Data.{Data}
use Rattle.serde_json.specs.View.{items_of}
use Rattle.serde_json.specs.Written.{compact_text}
use Rattle.cv_json.specs.Json.{json_of}
use Rattle.cv_json.specs.Timestamps.{ts_text}
use Rattle.cv_values.specs.Value.{Value}
use Rattle.fn_tree.specs.Course.{Reply, gives, failed}
use Rattle.sync_msgs.specs.Causes.{cause_text}
use Rattle.sync_msgs.specs.JsonParts.{object_with, number_tree}
use Rattle.sync_msgs.specs.Messages.{Shown, shows, hides, ServerMessage, transition, responds, refuses}
use Rattle.sync_msgs.specs.declared.version.Version.{Version}

abbrev pub no_lines : Data
no_lines = json.array json.no_items

abbrev pub of_type : List ℕ → List ℕ × Data
of_type name = (codes "type", json.string name)

abbrev pub version_tree : Version → Data
version_tree v = object_with ((codes "identity", number_tree v.identity) ∷ (codes "querySet", number_tree v.query_set) ∷ (codes "ts", json.string (ts_text v.ts)) ∷ [])

abbrev pub shown_tree : Shown → Data
shown_tree (shows id (gives v)) =
    object_with ((codes "journal", json.null) ∷ (codes "logLines", no_lines) ∷ (codes "queryId", number_tree id) ∷ of_type (codes "QueryUpdated") ∷ (codes "value", json_of v) ∷ [])
shown_tree (shows id (failed why)) =
    object_with ((codes "errorMessage", json.string why) ∷ (codes "journal", json.null) ∷ (codes "logLines", no_lines) ∷ (codes "queryId", number_tree id) ∷ of_type (codes "QueryFailed") ∷ [])
shown_tree (hides id) = object_with ((codes "queryId", number_tree id) ∷ of_type (codes "QueryRemoved") ∷ [])

abbrev pub transition_tree : (start end : Version) → List Shown → Data
transition_tree start end shown =
    object_with ((codes "endVersion", version_tree end) ∷ (codes "modifications", json.array (items_of (map shown_tree shown))) ∷ (codes "startVersion", version_tree start)
    ∷ of_type (codes "Transition") ∷ [])

-- a mutation ended with a value, and its entry has this timestamp
abbrev pub success_tree : (request ts : ℕ) → Value → Data
success_tree request ts v =
    object_with ((codes "logLines", no_lines) ∷ (codes "requestId", number_tree request) ∷ (codes "result", json_of v) ∷ (codes "success", json.boolean true)
    ∷ (codes "ts", json.string (ts_text ts)) ∷ of_type (codes "MutationResponse") ∷ [])

-- a mutation failed; the timestamp of its entry isn't told
abbrev pub failure_tree : (request : ℕ) → (why : List ℕ) → Data
failure_tree request why =
    object_with ((codes "logLines", no_lines) ∷ (codes "requestId", number_tree request) ∷ (codes "result", json.string why) ∷ (codes "success", json.boolean false)
    ∷ of_type (codes "MutationResponse") ∷ [])

abbrev pub response_tree : (request ts : ℕ) → Reply → Data
response_tree request ts (gives v) = success_tree request ts v
response_tree request ts (failed why) = failure_tree request why

abbrev pub refusal_tree : (why : List ℕ) → Data
refusal_tree why = object_with ((codes "error", json.string why) ∷ of_type (codes "FatalError") ∷ [])

abbrev pub message_tree : ServerMessage → Data
message_tree (transition start end shown) = transition_tree start end shown
message_tree (responds request ts reply) = response_tree request ts reply
message_tree (refuses why) = refusal_tree (cause_text why)

-- the text of a message
abbrev pub message_text : ServerMessage → List ℕ
message_text m = compact_text (message_tree m)
