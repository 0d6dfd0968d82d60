-- Entries may go to another thread, and modules may be shared between threads, each of their parts after
-- the other.
use denote.Param.Send.{IsSend, IsSync, sendable}
use denote.Param.SendFields.{declared_send, declared_sync, as_row_send, as_row_sync}
use Rattle.core.proofs.option.Option.TheSendSync.{the_send as option_send, the_sync as option_sync}
use Rattle.std_alloc.proofs.boxed.Box.TheSendSync.{the_send as box_send, the_sync as box_sync}
use Rattle.std_alloc.proofs.vec.Vec.TheSendSync.{the_send as vec_send, the_sync as vec_sync}
use Rattle.std_heap.proofs.Global.TheSendSync.{the_send as global_send, the_sync as global_sync}
use Rattle.std_heap.proofs.GlobalAllocator.TheSendSync.{the_frees as frees}
use Rattle.cv_values.proofs.Crossing.{fields_send, vals_send, val_send}
use Rattle.cv_values.proofs.text.Bytes.TheSendSync.{the_send as bytes_send}
use Rattle.cv_values.proofs.text.Text.TheSendSync.{the_send as text_send, the_sync as text_sync}
use Rattle.cv_keys.proofs.Crossing.{writes_send}
use Rattle.fn_tree.proofs.syntax.BinaryOp.TheSendSync.{the_send as binary_send, the_sync as binary_sync}
use Rattle.fn_tree.proofs.syntax.Builtin.TheSendSync.{the_send as builtin_send, the_sync as builtin_sync}
use Rattle.fn_tree.proofs.syntax.CompareOp.TheSendSync.{the_send as compare_send, the_sync as compare_sync}
use Rattle.fn_tree.proofs.syntax.Kind.TheSendSync.{the_send as kind_send, the_sync as kind_sync}
use Rattle.fn_tree.proofs.syntax.Named.TheSendSync.{the_send as named_send, the_sync as named_sync, the_field_send as named_field_send, the_field_sync as named_field_sync}
use Rattle.fn_tree.proofs.syntax.TableDecl.TheSendSync.{the_send as table_send, the_sync as table_sync}
use Rattle.fn_tree.proofs.syntax.UnaryOp.TheSendSync.{the_send as unary_send, the_sync as unary_sync}
use Rattle.fn_tree.proofs.syntax.ExprForm.TheLaws.TheKnot.{send-Expr, sync-Expr}
use Rattle.fn_tree.proofs.syntax.StmtForm.TheLaws.TheKnot.{send-Stmt, sync-Stmt}
use Rattle.fn_tree.specs.contracts.entry.Call.{the_row as call_row}
use Rattle.fn_tree.specs.contracts.entry.Entry.{the_row as entry_row, the_type as entry_type}
use Rattle.fn_tree.specs.contracts.entry.Reply.{the_row as reply_row}
use Rattle.fn_tree.specs.contracts.stop.Outcome.{the_row as outcome_row, the_type as outcome_type}
use Rattle.fn_tree.specs.contracts.syntax.Expr.{the_field as expr_field}
use Rattle.fn_tree.specs.contracts.syntax.Function.{the_row as function_row, the_type as function_type}
use Rattle.fn_tree.specs.contracts.syntax.Module.{the_row as module_row, the_type as module_type}
use Rattle.fn_tree.specs.contracts.syntax.Stmt.{the_row as stmt_row, the_field as stmt_field}

-- ---- entries

pub call_send : IsSend call_row
call_send = search (sendable, fields_send, text_send) depth 16

pub reply_send : IsSend reply_row
reply_send = search (sendable, val_send, vals_send, fields_send, text_send, bytes_send) depth 16

pub outcome_send : IsSend outcome_row
outcome_send = declared_send outcome_type (reply_send, (search sendable, tt))

pub entry_send : IsSend entry_row
entry_send = declared_send entry_type (call_send, (reply_send, (writes_send, tt)))

-- ---- modules, sent

expr_send : IsSend expr_field.row
expr_send = search (sendable, send-Expr, vec_send, box_send, option_send, text_send, named_send, builtin_send, compare_send, unary_send, binary_send, global_send, frees) depth 16

stmt_send : IsSend stmt_row
stmt_send = as_row_send stmt_field
    (send-Stmt named_field_send expr_send (λ h s. search (vec_send, global_send, frees) depth 8) (λ h s. search (option_send, vec_send, global_send, frees) depth 8) (search sendable))

function_send : IsSend function_row
function_send = declared_send function_type (
  kind_send,
  (text_send, (search (vec_send, named_send, global_send, frees) depth 8, (search (vec_send, stmt_send, global_send, frees) depth 8, (search sendable, tt)))),
)

pub module_send : IsSend module_row
module_send = declared_send module_type (search (vec_send, table_send, global_send, frees) depth 8, (search (vec_send, function_send, global_send, frees) depth 8, tt))

-- ---- modules, shared

expr_sync : IsSync expr_field.row
expr_sync = search (sendable, sync-Expr, vec_sync, box_sync, option_sync, text_sync, named_sync, builtin_sync, compare_sync, unary_sync, binary_sync, global_sync, frees) depth 16

stmt_sync : IsSync stmt_row
stmt_sync = as_row_sync stmt_field
    (sync-Stmt named_field_sync expr_sync (λ h s. search (vec_sync, global_sync, frees) depth 8) (λ h s. search (option_sync, vec_sync, global_sync, frees) depth 8) (search sendable))

function_sync : IsSync function_row
function_sync = declared_sync function_type (
  kind_sync,
  (text_sync, (search (vec_sync, named_sync, global_sync, frees) depth 8, (search (vec_sync, stmt_sync, global_sync, frees) depth 8, (search sendable, tt)))),
)

pub module_sync : IsSync module_row
module_sync = declared_sync module_type (search (vec_sync, table_sync, global_sync, frees) depth 8, (search (vec_sync, function_sync, global_sync, frees) depth 8, tt))
