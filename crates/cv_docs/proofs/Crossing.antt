-- Versions may go to another thread, each of their parts after the other.
use denote.Param.Send.{IsSend, sendable}
use Rattle.std_alloc.proofs.vec.Vec.TheSendSync.{the_send as vec_send}
use Rattle.std_heap.proofs.Global.TheSendSync.{the_send as global_send}
use Rattle.std_heap.proofs.GlobalAllocator.TheSendSync.{the_frees as frees}
use Rattle.cv_values.proofs.Crossing.{doc_send}
use Rattle.cv_docs.specs.contracts.versions.Versions.{the_row as versions_row}

pub versions_send : IsSend versions_row
versions_send = search (sendable, vec_send, doc_send, global_send, frees) depth 16
