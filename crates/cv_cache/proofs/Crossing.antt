-- Caches may go to another thread, each of their parts after the other.
use denote.Param.Send.{IsSend, IsSync, sendable, view_send}
use denote.Param.SendFields.{declared_send, declared_sync}
use Rattle.core.proofs.hash.build.BuildHasherDefault.TheSendSync.{the_send as build_send}
use Rattle.core.proofs.hash.fold.FoldHasher.TheSendSync.{the_send as fold_send}
use Rattle.std_alloc.proofs.vec.Vec.TheSendSync.{the_send as vec_send, the_sync as vec_sync}
use Rattle.std_collections.proofs.btree_map.BTreeMap.TheSendSync.{the_send as btree_map_send, the_sync as btree_map_sync}
use Rattle.std_heap.proofs.Global.TheSendSync.{the_send as global_send, the_sync as global_sync}
use Rattle.std_heap.proofs.GlobalAllocator.TheSendSync.{the_frees as frees}
use Rattle.cv_values.proofs.seq.Seq.TheSendSync.{the_send as seq_send}
use Rattle.cv_values.proofs.text.Bytes.TheSendSync.{the_send as bytes_send, the_sync as bytes_sync}
use Rattle.cv_values.proofs.text.Text.TheSendSync.{the_send as text_send, the_sync as text_sync}
use Rattle.cv_values.proofs.val.Fields.TheLaws.TheKnot.{send-Fields, send-Vals, sync-Fields}
use Rattle.cv_values.specs.contracts.val.Fields.{the_row as fields_row}
use Rattle.cv_values.specs.contracts.val.Val.{the_row as val_row}
use Rattle.cv_values.specs.contracts.val.Vals.{the_row as vals_row}
use Rattle.cv_keys.proofs.interval.Interval.TheSendSync.{the_send as interval_send}
use Rattle.cv_reads.specs.contracts.read_set.ReadSet.{the_row as read_set_row}
use Rattle.fn_tree.specs.contracts.entry.Reply.{the_row as reply_row}
use Rattle.fn_tree.specs.contracts.stop.Query.{the_row as query_row, the_type as query_type}
use Rattle.lru.proofs.cache.LruCache.TheSendSync.{the_send as lru_send}
use Rattle.range_tree.proofs.tree.RangeTree.TheSendSync.{the_send as tree_send}
use Rattle.slab.proofs.Slab.TheSendSync.{the_send as slab_send}
use Rattle.cv_cache.specs.contracts.entries.Entries.{the_row as entries_row, the_type as entries_type}
use Rattle.cv_cache.specs.contracts.flags.Flags.{the_row as flags_row, the_type as flags_type}
use Rattle.cv_cache.specs.contracts.kept.Kept.{the_row as kept_row, the_type as kept_type}
use Rattle.cv_cache.specs.contracts.owners.Owners.{the_row as owners_row, the_type as owners_type}
use Rattle.cv_cache.specs.contracts.query_cache.QueryCache.{the_row as cache_row}
use Rattle.cv_cache.specs.contracts.recent.Recent.{the_row as recent_row}

fields_send : IsSend fields_row
fields_send = search (sendable, send-Fields, btree_map_send, vec_send, text_send, bytes_send, global_send, frees) depth 16

fields_sync : IsSync fields_row
fields_sync = search (sendable, sync-Fields, btree_map_sync, vec_sync, text_sync, bytes_sync, global_sync, frees) depth 16

vals_send : IsSend vals_row
vals_send = search (sendable, send-Vals, btree_map_send, vec_send, text_send, bytes_send, global_send, frees) depth 16

val_send : IsSend val_row
val_send = search (sendable, fields_send, vals_send, text_send, bytes_send) depth 16

query_send : IsSend query_row
query_send = declared_send query_type (text_send, (fields_send, tt))

query_sync : IsSync query_row
query_sync = declared_sync query_type (text_sync, (fields_sync, tt))

reply_send : IsSend reply_row
reply_send = search (sendable, val_send, vals_send, fields_send, text_send, bytes_send) depth 16

read_set_send : IsSend read_set_row
read_set_send = search (view_send, declared_send, sendable, seq_send, interval_send) depth 12

kept_send : IsSend kept_row
kept_send = declared_send kept_type (search sendable, (reply_send, (read_set_send, (search sendable, tt))))

flags_send : IsSend flags_row
flags_send = declared_send flags_type (search (sendable, vec_send, global_send, frees) depth 8, (search sendable, tt))

owners_send : IsSend owners_row
owners_send = declared_send owners_type (search (sendable, slab_send, query_send, global_send, frees) depth 16, (flags_send, tt))

recent_send : IsSend recent_row
recent_send = search (view_send, declared_send, sendable, lru_send, query_send, query_sync, kept_send, build_send, fold_send, global_send, frees) depth 12

entries_send : IsSend entries_row
entries_send = declared_send entries_type (recent_send, (owners_send, (tree_send, tt)))

pub cache_send : IsSend cache_row
cache_send = search (view_send, declared_send, entries_send) depth 12
