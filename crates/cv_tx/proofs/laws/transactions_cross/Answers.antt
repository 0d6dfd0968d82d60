use denote.Param.Send.{sendable}
use Rattle.cv_tx.proofs.Crossing.{tx_send}
use Rattle.cv_tx.proofs.laws.transactions_cross.Goals as goal

pub crosses-requires-send-T : goal.crosses-requires-send-T
crosses-requires-send-T c κs = search (sendable, tx_send) depth 8
