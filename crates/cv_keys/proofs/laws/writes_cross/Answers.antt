use denote.Param.Send.{sendable}
use Rattle.cv_keys.proofs.Crossing.{write_send}
use Rattle.cv_keys.proofs.laws.writes_cross.Goals as goal

pub crosses-requires-send-T : goal.crosses-requires-send-T
crosses-requires-send-T c κs = search (sendable, write_send) depth 8
