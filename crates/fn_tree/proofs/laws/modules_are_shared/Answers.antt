use denote.Param.Send.{sendable}
use Rattle.fn_tree.proofs.Crossing.{module_send, module_sync}
use Rattle.fn_tree.proofs.laws.modules_are_shared.Goals as goal

pub shared-requires-send-T : goal.shared-requires-send-T
shared-requires-send-T c κs = search (sendable, module_send) depth 8

pub shared-requires-sync-T : goal.shared-requires-sync-T
shared-requires-sync-T c κs = search (sendable, module_sync) depth 8
