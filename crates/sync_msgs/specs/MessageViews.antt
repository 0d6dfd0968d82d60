-- The plain messages that the Rust ones stand for.
use Rattle.std.specs.Prelude.{map}
use Rattle.cv_values.specs.Trees.{tree}
use Rattle.fn_tree.specs.Course.{gives, failed}
use Rattle.serde_json.specs.Data.{Data}
use Rattle.sync_msgs.specs.Messages as plain
use Rattle.sync_msgs.specs.Messages.{adds, removes, connects, modifies, requests, notes, shows, hides}
use Rattle.sync_msgs.specs.ServerTexts.{transition_tree, success_tree, failure_tree, refusal_tree}
use Rattle.sync_msgs.specs.declared.messages.Change.{Change}
use Rattle.sync_msgs.specs.declared.messages.Change.TheVariants.{Add, Remove}
use Rattle.sync_msgs.specs.declared.messages.ClientMsg.{ClientMsg}
use Rattle.sync_msgs.specs.declared.messages.ClientMsg.TheVariants.{Connect, ModifyQuerySet, Mutation, Event}
use Rattle.sync_msgs.specs.declared.messages.MutationResult.TheVariants.{Value, Failed}
use Rattle.sync_msgs.specs.declared.messages.ServerMsg.{ServerMsg}
use Rattle.sync_msgs.specs.declared.messages.ServerMsg.TheVariants.{Transition, MutationResponse, FatalError}
use Rattle.sync_msgs.specs.declared.messages.Shown.{Shown}
use Rattle.sync_msgs.specs.declared.messages.Shown.TheVariants.{QueryUpdated, QueryFailed, QueryRemoved}

abbrev pub change_view : Change → plain.Change
change_view (Add id udf args) = adds id (record { udf = udf; args = args })
change_view (Remove id) = removes id

abbrev pub client_view : ClientMsg → plain.ClientMessage
client_view (Connect session observed) = connects session observed
client_view (ModifyQuerySet base next changes) = modifies base next (map change_view changes.items)
client_view (Mutation request udf args) = requests request udf args
client_view Event = notes

abbrev pub shown_view : Shown → plain.Shown
shown_view (QueryUpdated id value) = shows id (gives (tree value))
shown_view (QueryFailed id error) = shows id (failed error)
shown_view (QueryRemoved id) = hides id

-- the JSON of a server's message: where a mutation failed, that of its response at any timestamp; where a
-- text was refused, that of the refusal whose cause has this text
abbrev pub server_tree : ServerMsg → Data
server_tree (Transition start end changes) = transition_tree start end (map shown_view changes.items)
server_tree (MutationResponse request (Value value ts)) = success_tree request ts (tree value)
server_tree (MutationResponse request (Failed error)) = failure_tree request error
server_tree (FatalError error) = refusal_tree error
