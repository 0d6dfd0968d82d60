-- What clients and servers tell each other.
use Rattle.std.specs.Prelude.{ℕ, List, Option}
use Rattle.cv_values.specs.Value.{Value}
use Rattle.fn_tree.specs.Course.{Reply}
use Rattle.fn_tree.specs.declared.stop.Query.{Query}
use Rattle.sync_msgs.specs.declared.cause.Cause.{Cause}
use Rattle.sync_msgs.specs.declared.version.Version.{Version}

-- a query set gains a query under an id, or loses one
pub data Change : Type 0 where
  adds : (id : ℕ) → Query → Change
  removes : (id : ℕ) → Change

pub data ClientMessage : Type 0 where
  -- a session begins, whose client has observed this timestamp
  connects : (session : ℕ) → (observed : Option ℕ) → ClientMessage
  -- the query set goes on from one number to another by these changes
  modifies : (base next : ℕ) → List Change → ClientMessage
  -- a mutation is to be run
  requests : (request : ℕ) → (udf : List ℕ) → (args : List (List ℕ × Value)) → ClientMessage
  -- an event, which is ignored
  notes : ClientMessage

-- what a transition tells of an id: its query's reply, or that it is gone
pub data Shown : Type 0 where
  shows : (id : ℕ) → Reply → Shown
  hides : (id : ℕ) → Shown

pub data ServerMessage : Type 0 where
  -- the client goes on from one version to another by what is shown
  transition : (start end : Version) → List Shown → ServerMessage
  -- a request has the entry at this timestamp, with this reply
  responds : (request ts : ℕ) → Reply → ServerMessage
  -- a text was refused, and nothing follows
  refuses : Cause → ServerMessage
