use denote.Param.Send.{sendable}
use Rattle.fn_tree.proofs.Crossing.{entry_send}
use Rattle.fn_tree.proofs.laws.entries_cross.Goals as goal

pub crosses-requires-send-T : goal.crosses-requires-send-T
crosses-requires-send-T c κs = search (sendable, entry_send) depth 8
