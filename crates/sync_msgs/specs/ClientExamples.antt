-- Clients, worked out.
use Rattle.std.specs.Prelude.{◌≡◌, ℕ, pos, List, [], ◌∷◌}
use Rattle.cv_values.specs.Value.{int}
use Rattle.fn_tree.specs.Course.{Reply, gives}
use Rattle.sync_msgs.specs.Clients.{new_client, fold_messages}
use Rattle.sync_msgs.specs.Messages.{ServerMessage, transition, responds, shows, hides}
use Rattle.sync_msgs.specs.declared.version.Version.{Version}

abbrev version : (set ts : ℕ) → Version
version set ts = record { query_set = set; identity = 0; ts = ts }

abbrev number : ℕ → Reply
number n = gives (int (pos n))

abbrev messages : List ServerMessage
messages =
    transition (version 0 0) (version 1 2) (shows 7 (number 1) ∷ shows 3 (number 2) ∷ [])
    ∷ responds 1 3 (number 5)
    ∷ transition (version 0 0) (version 9 9) (hides 3 ∷ [])
    ∷ transition (version 1 2) (version 2 4) (hides 7 ∷ shows 3 (number 4) ∷ []) ∷ []

-- what doesn't begin at the client's version changes nothing
abbrev pub AreWorkedClients : Type 0
AreWorkedClients = fold_messages new_client messages ≡ record { version = version 2 4; results = (3, number 4) ∷ [] }
