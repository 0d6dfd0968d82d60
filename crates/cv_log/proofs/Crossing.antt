-- Logs may go to another thread, each of their parts after the other.
use denote.Param.Send.{IsSend, sendable, view_send}
use denote.Param.SendFields.{declared_send}
use Rattle.core.proofs.hash.build.BuildHasherDefault.TheSendSync.{the_send as build_send}
use Rattle.core.proofs.hash.fold.FoldHasher.TheSendSync.{the_send as fold_send}
use Rattle.std_alloc.proofs.vec.Vec.TheSendSync.{the_send as vec_send}
use Rattle.std_heap.proofs.Global.TheSendSync.{the_send as global_send}
use Rattle.std_heap.proofs.GlobalAllocator.TheSendSync.{the_frees as frees}
use Rattle.std_collections.proofs.hash_map.HashMap.TheSendSync.{the_send as hash_map_send}
use Rattle.fn_tree.proofs.Crossing.{entry_send}
use Rattle.cv_reads.proofs.mark.Mark.TheSendSync.{the_send as mark_send}
use Rattle.cv_log.specs.contracts.touch.Marked.{the_row as marked_row, the_type as marked_type}
use Rattle.cv_log.specs.contracts.write_log.WriteLog.{the_row as log_row}
use Rattle.cv_log.specs.contracts.write_log.WriteLog.TheInside.{the_row as inside_row, the_type as inside_type}

marked_send : IsSend marked_row
marked_send = declared_send marked_type (entry_send, (search (vec_send, mark_send, global_send, frees) depth 8, tt))

inside_send : IsSend inside_row
inside_send = declared_send inside_type (search (vec_send, marked_send, global_send, frees) depth 8, (search (sendable, hash_map_send, build_send, fold_send, global_send, frees) depth 12, tt))

pub log_send : IsSend log_row
log_send = search (view_send, inside_send) depth 6
