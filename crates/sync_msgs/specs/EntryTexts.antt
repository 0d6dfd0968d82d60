-- The JSON of the log's entries.
use Rattle.std.specs.Prelude.{ℕ, List, [], ◌∷◌, map, Option, Some, None, codes}
use Rattle.std.specs.Int.{w128, to_be_bytes}
use Rattle.uuid.specs.Text.{hyphenated_text, lower}
use Rattle.serde_json.specs.Data as json
use Rattle.serde_json.specs.Data.{Data, Items, Members}
use Rattle.serde_json.specs.View.{items_of}
use Rattle.serde_json.specs.Written.{compact_text}
use Rattle.cv_json.specs.Json.{json_of}
use Rattle.cv_keys.specs.declared.write.Write.{Write}
use Rattle.cv_values.specs.Docs.{doc_value}
use Rattle.cv_values.specs.Ids.{id_text}
use Rattle.cv_values.specs.Value.{int, object, members_of}
use Rattle.cv_values.specs.declared.doc.Doc.{Doc}
use Rattle.fn_tree.specs.Course.{Reply, gives, failed}
use Rattle.fn_tree.specs.History.{Entry}
use Rattle.fn_tree.specs.declared.entry.Call.{Call}
use Rattle.sync_msgs.specs.JsonParts.{members, object_with, number_tree}

abbrev pub doc_tree : Option Doc → Data
doc_tree None = json.null
doc_tree (Some d) = json_of (doc_value d)

-- the id and the document after it, or null
abbrev pub write_tree : Write → Data
write_tree w = json.array (json.item (json.string (id_text w.id)) (json.item (doc_tree w.new) json.no_items))

abbrev pub write_trees : List Write → Items
write_trees ws = items_of (map write_tree ws)

abbrev pub session_tree : ℕ → Data
session_tree session = json.string (hyphenated_text lower (to_be_bytes w128 session))

abbrev pub args_tree : Call → Data
args_tree call = json_of (object (members_of call.args))

abbrev pub reply_tree : Reply → Data
reply_tree (gives v) = object_with ((codes "value", json_of v) ∷ [])
reply_tree (failed why) = object_with ((codes "error", json.string why) ∷ [])

-- the members that tell a call
abbrev pub call_members : Call → Members
call_members call =
    members ((codes "args", args_tree call) ∷ (codes "now", json_of (int call.now)) ∷ (codes "request", number_tree call.request) ∷ (codes "session", session_tree call.session)
    ∷ (codes "udf", json.string call.udf) ∷ [])

-- the members of an entry with this timestamp, in byte order of their names
unfoldable pub entry_members : ℕ → Entry → Members
entry_members ts e =
    members ((codes "args", args_tree e.call) ∷ (codes "now", json_of (int e.call.now)) ∷ (codes "reply", reply_tree e.reply) ∷ (codes "request", number_tree e.call.request)
    ∷ (codes "session", session_tree e.call.session) ∷ (codes "ts", number_tree ts) ∷ (codes "udf", json.string e.call.udf) ∷ (codes "writes", json.array (write_trees e.writes)) ∷ [])

abbrev pub entry_tree : ℕ → Entry → Data
entry_tree ts e = json.object (entry_members ts e)

-- the text of an entry with this timestamp
abbrev pub entry_text : ℕ → Entry → List ℕ
entry_text ts e = compact_text (entry_tree ts e)
