-- The names of fields, and the texts of causes.
use Rattle.std.specs.Prelude.{◌≡◌, ℕ, List, ◌++◌, Option, Some, None, Result, Err, codes}
use Rattle.sync_msgs.specs.declared.cause.Cause.{Cause}
use Rattle.sync_msgs.specs.declared.cause.Cause.TheVariants.{TooLong, BadJson, UnknownType, BadField, NotConnected, ConnectedTwice, TimestampAhead, VersionMismatch, QueryIdInUse, TooManyQueries, UnknownQuery}
use Rattle.sync_msgs.specs.declared.cause.FieldName.{FieldName}
use Rattle.sync_msgs.specs.declared.cause.FieldName.TheVariants.{Type_, SessionId, MaxObservedTimestamp, BaseVersion, NewVersion, Modifications, QueryId, UdfPath, Args, RequestId}
use Rattle.sync_msgs.specs.declared.cause.MsgFault.{MsgFault}
use Rattle.sync_msgs.specs.declared.cause.MsgFault.TheVariants as fault

abbrev pub field_name : FieldName → List ℕ
field_name Type_ = codes "type"
field_name SessionId = codes "sessionId"
field_name MaxObservedTimestamp = codes "maxObservedTimestamp"
field_name BaseVersion = codes "baseVersion"
field_name NewVersion = codes "newVersion"
field_name Modifications = codes "modifications"
field_name QueryId = codes "queryId"
field_name UdfPath = codes "udfPath"
field_name Args = codes "args"
field_name RequestId = codes "requestId"

abbrev pub cause_text : Cause → List ℕ
cause_text TooLong = codes "TooLong"
cause_text BadJson = codes "BadJson"
cause_text UnknownType = codes "UnknownType"
cause_text (BadField name) = codes "BadField " ++ field_name name
cause_text NotConnected = codes "NotConnected"
cause_text ConnectedTwice = codes "ConnectedTwice"
cause_text TimestampAhead = codes "TimestampAhead"
cause_text VersionMismatch = codes "VersionMismatch"
cause_text QueryIdInUse = codes "QueryIdInUse"
cause_text TooManyQueries = codes "TooManyQueries"
cause_text UnknownQuery = codes "UnknownQuery"

-- the cause of a text's fault; want of memory has none
abbrev pub cause_of : MsgFault → Option Cause
cause_of fault.TooLong = Some TooLong
cause_of fault.BadJson = Some BadJson
cause_of fault.UnknownType = Some UnknownType
cause_of (fault.BadField name) = Some (BadField name)
cause_of fault.Memory = None

-- the cause of the fault, if it has one, is why nothing is read
abbrev pub IsFaultOf : {A : Type 0} → Result A Cause → MsgFault → Type 0
IsFaultOf r e = (why : Cause) → cause_of e ≡ Some why → r ≡ Err why
