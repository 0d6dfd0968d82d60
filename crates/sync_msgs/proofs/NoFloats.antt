-- The JSON trees that are written have no float.
use Rattle.std.proofs.Common.{◌≡◌, ℕ, List, [], ◌∷◌, map, false, refl, Option, Some, None}
use Rattle.serde_json.specs.View.{items_of}
use Rattle.serde_json.specs.Written.{has_float, items_have_float}
use Rattle.cv_json.proofs.NoFloats.{no_float}
use Rattle.cv_keys.specs.declared.write.Write.{Write}
use Rattle.cv_values.specs.Docs.{doc_value}
use Rattle.cv_values.specs.Trees.{tree}
use Rattle.cv_values.specs.Value.{object, members_of}
use Rattle.cv_values.specs.declared.doc.Doc.{Doc}
use Rattle.fn_tree.specs.Course.{Reply, gives, failed}
use Rattle.fn_tree.specs.History.{Entry}
use Rattle.sync_msgs.specs.EntryTexts.{doc_tree, write_trees, reply_tree, entry_members, entry_tree}
use Rattle.sync_msgs.specs.MessageViews.{shown_view, server_tree}
use Rattle.sync_msgs.specs.Messages.{Shown, shows, hides}
use Rattle.sync_msgs.specs.ServerTexts.{shown_tree}
use Rattle.sync_msgs.specs.declared.messages.MutationResult.TheVariants.{Value, Failed}
use Rattle.sync_msgs.specs.declared.messages.ServerMsg.{ServerMsg}
use Rattle.sync_msgs.specs.declared.messages.ServerMsg.TheVariants.{Transition, MutationResponse, FatalError}

-- ---- entries

reply_no_float : (r : Reply) → has_float (reply_tree r) ≡ false
reply_no_float (gives v) = rw (no_float v)
reply_no_float (failed why) = refl

doc_no_float : (d : Option Doc) → has_float (doc_tree d) ≡ false
doc_no_float None = refl
doc_no_float (Some d) = no_float (doc_value d)

writes_no_float : (ws : List Write) → items_have_float (write_trees ws) ≡ false
writes_no_float [] = refl
writes_no_float (w ∷ ws) = rw (doc_no_float w.new, writes_no_float ws)

pub entry_no_float : (ts : ℕ) (e : Entry) → has_float (entry_tree ts e) ≡ false
unfolding entry_members
entry_no_float ts e = rw (no_float (object (members_of e.call.args)), reply_no_float e.reply, writes_no_float e.writes)

-- ---- messages

shown_no_float : (s : Shown) → has_float (shown_tree s) ≡ false
shown_no_float (shows id (gives v)) = rw (no_float v)
shown_no_float (shows id (failed why)) = refl
shown_no_float (hides id) = refl

changes_no_float : (ss : List Shown) → items_have_float (items_of (map shown_tree ss)) ≡ false
changes_no_float [] = refl
changes_no_float (s ∷ ss) = rw (shown_no_float s, changes_no_float ss)

pub server_no_float : (m : ServerMsg) → has_float (server_tree m) ≡ false
server_no_float (Transition start end changes) = rw (changes_no_float (map shown_view changes.items))
server_no_float (MutationResponse request (Value value ts)) = rw (no_float (tree value))
server_no_float (MutationResponse request (Failed error)) = refl
server_no_float (FatalError error) = refl
