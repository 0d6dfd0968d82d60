-- Transactions may go to another thread, each of their parts after the other.
use denote.Param.Send.{IsSend, sendable, view_send}
use denote.Param.SendFields.{declared_send}
use Rattle.std_alloc.proofs.vec.Vec.TheSendSync.{the_send as vec_send}
use Rattle.std_heap.proofs.Global.TheSendSync.{the_send as global_send}
use Rattle.std_heap.proofs.GlobalAllocator.TheSendSync.{the_frees as frees}
use Rattle.cv_keys.proofs.Crossing.{write_send}
use Rattle.cv_reads.proofs.read_set.ReadSet.TheSendSync.{the_send as read_set_send}
use Rattle.cv_tx.specs.contracts.tx.Tx.{the_row as tx_row}
use Rattle.cv_tx.specs.contracts.tx.Tx.TheInside.{the_row as tx_inside, the_type as tx_type}

pub tx_send : IsSend tx_row
tx_send =
    let inside : IsSend tx_inside = declared_send tx_type (search sendable, (search (vec_send, write_send, global_send, frees) depth 8, (read_set_send, tt))) in
    search (view_send, inside) depth 6
