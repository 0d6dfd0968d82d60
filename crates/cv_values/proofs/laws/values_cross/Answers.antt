use denote.Param.Send.{sendable}
use Rattle.cv_values.proofs.Crossing.{val_send, fields_send, doc_send}
use Rattle.cv_values.proofs.laws.values_cross.Goals as goal

pub crosses-requires-send-T : goal.crosses-requires-send-T
crosses-requires-send-T c κs = search (sendable, val_send) depth 8

pub crosses-requires-2-send-T : goal.crosses-requires-2-send-T
crosses-requires-2-send-T c κs = search (sendable, fields_send) depth 8

pub crosses-requires-3-send-T : goal.crosses-requires-3-send-T
crosses-requires-3-send-T c κs = search (sendable, doc_send) depth 8
