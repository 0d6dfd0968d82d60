-- Cores and stores over them may go to another thread, each of their parts after the other.
use denote.Param.Send.{IsSend, sendable, view_send}
use denote.Param.SendFields.{declared_send}
use Rattle.std_alloc.proofs.vec.Vec.TheSendSync.{the_send as vec_send}
use Rattle.std_heap.proofs.Global.TheSendSync.{the_send as global_send}
use Rattle.std_heap.proofs.GlobalAllocator.TheSendSync.{the_frees as frees}
use Rattle.fn_check.proofs.Crossing.{checked_send}
use Rattle.cv_docs.proofs.Crossing.{versions_send}
use Rattle.cv_flat.proofs.flat_rows.FlatRows.TheSendSync.{the_send as flat_rows_send}
use Rattle.cv_log.proofs.Crossing.{log_send}
use Rattle.cv_store.proofs.turns.Turns.TheSendSync.{the_send as turns_send}
use Rattle.cv_core.proofs.table_rows.TableRows.TheSendSync.{the_send as table_rows_send}
use Rattle.cv_core.specs.contracts.rows.Rows.{the_row as rows_row}
use Rattle.cv_core.specs.contracts.rows.Rows.TheInside.{the_row as rows_inside, the_type as rows_type}
use Rattle.cv_core.specs.contracts.solo.SoloStore.{the_row as solo_row}
use Rattle.cv_core.specs.contracts.the_core.Core.{the_row as core_row}

rows_send : IsSend rows_row
rows_send =
    let inside : IsSend rows_inside = declared_send rows_type (versions_send, (search sendable, (search (vec_send, table_rows_send, flat_rows_send, global_send, frees) depth 12, tt))) in
    search (view_send, inside) depth 6

pub core_send : IsSend core_row
core_send = search (view_send, declared_send, checked_send, log_send, rows_send) depth 12

pub solo_send : IsSend solo_row
solo_send = search (view_send, declared_send, sendable, core_send, turns_send) depth 12
