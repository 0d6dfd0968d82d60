use Rattle.std.proofs.Common.{map}
use Rattle.fn_tree.specs.Schemas.{text_of}
use Rattle.fn_tree.specs.SyntaxViews.{stmt_view, stmts_of}
use Rattle.fn_code.proofs.Emitted.{forgotten}
use Rattle.fn_code.proofs.emit.functions.emit_function.Goals as goal

pub returns-clause-known : goal.returns-clause-known
returns-clause-known c = forgotten c.args.known.now c.declare_all.new.self c.emit_stmts.new.known c.forget.new.self (map text_of c.deref.result.now) (stmts_of (map stmt_view c.deref-2.result.now)) c.count-outside.result c.in_ok-declare_all.ensures c.in_ok-emit_stmts.ensures.known c.forget.ensures c.count-outside.ensures
