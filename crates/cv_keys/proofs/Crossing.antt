-- Writes may go to another thread, each of their parts after the other.
use denote.Param.Send.{IsSend, sendable}
use Rattle.core.proofs.option.Option.TheSendSync.{the_send as option_send}
use Rattle.cv_values.proofs.Crossing.{doc_send}
use Rattle.cv_values.proofs.ids.DocId.TheSendSync.{the_send as id_send}
use Rattle.cv_values.proofs.seq.Seq.TheSendSync.{the_send as seq_send}
use Rattle.cv_values.specs.contracts.seq.Seq.{the_row as seq_row}
use Rattle.cv_keys.specs.contracts.write.Write.{the_row as write_row}

pub write_send : IsSend write_row
write_send = search (sendable, option_send, doc_send, id_send) depth 16

pub writes_send : IsSend (seq_row write_row)
writes_send = search (seq_send, write_send) depth 8
