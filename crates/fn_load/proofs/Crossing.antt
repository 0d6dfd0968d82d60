-- A program may be sent to another thread and be shared between threads, each of its parts in turn.
use denote.Param.Send.{IsSend, IsSync}
use denote.Param.SendFields.{declared_send, declared_sync}
use Rattle.fn_check.proofs.Crossing.{checked_send, checked_sync}
use Rattle.fn_code.proofs.code.Code.TheSendSync.{the_send as code_send, the_sync as code_sync}
use Rattle.fn_load.specs.contracts.program.Program.{the_row as program_row, the_type as program_type}

pub program_send : IsSend program_row
program_send = declared_send program_type (checked_send, (code_send, tt))

pub program_sync : IsSync program_row
program_sync = declared_sync program_type (checked_sync, (code_sync, tt))
