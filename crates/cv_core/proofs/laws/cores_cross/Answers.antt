use denote.Param.Send.{sendable}
use Rattle.cv_core.proofs.Crossing.{core_send, solo_send}
use Rattle.cv_core.proofs.laws.cores_cross.Goals as goal

pub crosses-requires-send-T : goal.crosses-requires-send-T
crosses-requires-send-T c κs = search (sendable, core_send) depth 8

pub crosses-requires-2-send-T : goal.crosses-requires-2-send-T
crosses-requires-2-send-T c κs = search (sendable, solo_send) depth 8
