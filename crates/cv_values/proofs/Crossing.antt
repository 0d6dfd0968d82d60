-- Values and documents may go to another thread, each of their parts after the other.
use denote.Param.Send.{IsSend, sendable}
use Rattle.std_alloc.proofs.vec.Vec.TheSendSync.{the_send as vec_send}
use Rattle.std_heap.proofs.Global.TheSendSync.{the_send as global_send}
use Rattle.std_heap.proofs.GlobalAllocator.TheSendSync.{the_frees as frees}
use Rattle.std_collections.proofs.btree_map.BTreeMap.TheSendSync.{the_send as btree_map_send}
use Rattle.cv_values.proofs.ids.DocId.TheSendSync.{the_send as id_send}
use Rattle.cv_values.proofs.text.Bytes.TheSendSync.{the_send as bytes_send}
use Rattle.cv_values.proofs.text.Text.TheSendSync.{the_send as text_send}
use Rattle.cv_values.proofs.val.Fields.TheLaws.TheKnot.{send-Fields, send-Vals}
use Rattle.cv_values.specs.contracts.doc.Doc.{the_row as doc_row}
use Rattle.cv_values.specs.contracts.val.Fields.{the_row as fields_row}
use Rattle.cv_values.specs.contracts.val.Val.{the_row as val_row}
use Rattle.cv_values.specs.contracts.val.Vals.{the_row as vals_row}

pub fields_send : IsSend fields_row
fields_send = search (sendable, send-Fields, btree_map_send, vec_send, text_send, bytes_send, global_send, frees) depth 16

pub vals_send : IsSend vals_row
vals_send = search (sendable, send-Vals, btree_map_send, vec_send, text_send, bytes_send, global_send, frees) depth 16

pub val_send : IsSend val_row
val_send = search (sendable, fields_send, vals_send, text_send, bytes_send) depth 16

pub doc_send : IsSend doc_row
doc_send = search (sendable, fields_send, id_send) depth 16
