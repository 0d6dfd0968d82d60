use denote.Param.Send.{sendable}
use Rattle.fn_load.proofs.Crossing.{program_send, program_sync}
use Rattle.fn_load.proofs.laws.programs_are_shared.Goals as goal

pub shared-requires-send-T : goal.shared-requires-send-T
shared-requires-send-T c κs = search (sendable, program_send) depth 8

pub shared-requires-sync-T : goal.shared-requires-sync-T
shared-requires-sync-T c κs = search (sendable, program_sync) depth 8
