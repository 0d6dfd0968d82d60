use denote.Param.Send.{sendable}
use Rattle.cv_log.proofs.Crossing.{log_send}
use Rattle.cv_log.proofs.laws.logs_cross.Goals as goal

pub crosses-requires-send-T : goal.crosses-requires-send-T
crosses-requires-send-T c κs = search (sendable, log_send) depth 8
