-- What a client shows, and what messages make of it.
use Rattle.std.specs.Prelude.{Bool, ◌&&◌, ◌==◌, if◌then◌else◌, List, [], ◌∷◌}
use Rattle.fn_tree.specs.Course.{Reply}
use Rattle.sync_msgs.specs.Messages.{Shown, shows, hides, ServerMessage, transition, responds, refuses}
use Rattle.sync_msgs.specs.Numbered.{Numbered, with_number, without_number}
use Rattle.sync_msgs.specs.declared.version.Version.{Version}

-- its version, and the reply under each id
pub record Client : Type 0 where
  pub version : Version
  pub results : Numbered Reply

-- where each client begins
abbrev pub new_client : Client
new_client = record { version = record { query_set = 0; identity = 0; ts = 0 }; results = [] }

abbrev pub same_version : Version → Version → Bool
same_version v w = (v.query_set == w.query_set) && (v.identity == w.identity) && (v.ts == w.ts)

-- the replies with what is shown
abbrev pub with_shown : List Shown → Numbered Reply → Numbered Reply
with_shown [] rs = rs
with_shown (shows id r ∷ shown) rs = with_shown shown (with_number id r rs)
with_shown (hides id ∷ shown) rs = with_shown shown (without_number id rs)

-- the client behind a message: a transition from the client's version is shown, and every other message
-- leaves the client as it is
abbrev pub fold_message : Client → ServerMessage → Client
fold_message c (transition start end shown) = if same_version start c.version then record { version = end; results = with_shown shown c.results } else c
fold_message c (responds request ts r) = c
fold_message c (refuses why) = c

-- the same of messages one after another
abbrev pub fold_messages : Client → List ServerMessage → Client
fold_messages c [] = c
fold_messages c (m ∷ ms) = fold_messages (fold_message c m) ms
