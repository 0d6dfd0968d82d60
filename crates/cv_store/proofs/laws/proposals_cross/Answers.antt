use denote.Param.Send.{sendable}
use Rattle.cv_store.proofs.Crossing.{proposal_send}
use Rattle.cv_store.proofs.laws.proposals_cross.Goals as goal

pub crosses-requires-send-T : goal.crosses-requires-send-T
crosses-requires-send-T c κs = search (sendable, proposal_send) depth 8
