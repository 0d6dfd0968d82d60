-- Checked modules may be sent to another thread and be shared between threads, each of their parts after the other.
use denote.Param.Send.{IsSend, IsSync}
use denote.Param.SendFields.{declared_send, declared_sync}
use Rattle.cv_keys.proofs.schema.Schema.TheSendSync.{the_send as schema_send, the_sync as schema_sync}
use Rattle.fn_tree.proofs.Crossing.{module_send, module_sync}
use Rattle.fn_check.specs.contracts.checked.Checked.{the_row as checked_row, the_type as checked_type}

pub checked_send : IsSend checked_row
checked_send = declared_send checked_type (module_send, (schema_send, tt))

pub checked_sync : IsSync checked_row
checked_sync = declared_sync checked_type (module_sync, (schema_sync, tt))
