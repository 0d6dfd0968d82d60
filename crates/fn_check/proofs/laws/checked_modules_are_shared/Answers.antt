use denote.Param.Send.{sendable}
use Rattle.fn_check.proofs.Crossing.{checked_send, checked_sync}
use Rattle.fn_check.proofs.laws.checked_modules_are_shared.Goals as goal

pub shared-requires-send-T : goal.shared-requires-send-T
shared-requires-send-T c κs = search (sendable, checked_send) depth 8

pub shared-requires-sync-T : goal.shared-requires-sync-T
shared-requires-sync-T c κs = search (sendable, checked_sync) depth 8
