use denote.Param.Send.{sendable}
use Rattle.cv_docs.proofs.Crossing.{versions_send}
use Rattle.cv_docs.proofs.laws.versions_cross.Goals as goal

pub crosses-requires-send-T : goal.crosses-requires-send-T
crosses-requires-send-T c κs = search (sendable, versions_send) depth 8
