-- The plain tree that a syntax tree stands for.
use Rattle.std.specs.declared.alloc.Global.{Global}
use Rattle.std.specs.Prelude.{Vec, true, false, List, [], ◌∷◌, map, Option, Some, None}
use Rattle.fn_tree.specs.SyntaxTree as plain
use Rattle.fn_tree.specs.SyntaxTree.{Exprs, no_exprs, then_expr, Entries, no_entries, entry, Bounds, no_bounds, bound, Limit, all_rows, up_to, Stmts, no_stmts, then_stmt, Else, no_else, or_else, FunctionTree, IndexTree, TableTree, ModuleTree}
use Rattle.fn_tree.specs.declared.syntax.CompareOp.{CompareOp}
use Rattle.fn_tree.specs.declared.syntax.Named.{Named}
use Rattle.fn_tree.specs.declared.syntax.Expr.{Expr, fold-Expr}
use Rattle.fn_tree.specs.declared.syntax.BoundExpr.{BoundExpr, fold-BoundExpr}
use Rattle.fn_tree.specs.declared.syntax.ExprForm.{ExprForm, fold-ExprForm}
use Rattle.fn_tree.specs.declared.syntax.ExprForm.TheOpen.{ExprForm-F, Expr-F, BoundExpr-F}
use Rattle.fn_tree.specs.declared.syntax.Stmt.{Stmt, fold-Stmt}
use Rattle.fn_tree.specs.declared.syntax.StmtForm.{StmtForm, fold-StmtForm}
use Rattle.fn_tree.specs.declared.syntax.StmtForm.TheOpen.{StmtForm-F, Stmt-F}
use Rattle.fn_tree.specs.declared.syntax.Function.{Function}
use Rattle.fn_tree.specs.declared.syntax.IndexDecl.{IndexDecl}
use Rattle.fn_tree.specs.declared.syntax.TableDecl.{TableDecl}
use Rattle.fn_tree.specs.declared.syntax.Module.{Module}

abbrev pub exprs_of : List plain.Expr → Exprs
exprs_of [] = no_exprs
exprs_of (e ∷ es) = then_expr e (exprs_of es)

abbrev pub entries_of : List (Named × plain.Expr) → Entries
entries_of [] = no_entries
entries_of (p ∷ ps) = entry p.0 p.1 (entries_of ps)

abbrev pub BoundView : Type 0
BoundView = Named × CompareOp × plain.Expr

abbrev pub bounds_of : List BoundView → Bounds
bounds_of [] = no_bounds
bounds_of (b ∷ bs) = bound b.0 b.1 b.2 (bounds_of bs)

abbrev pub limit_of : Option plain.Expr → Limit
limit_of None = all_rows
limit_of (Some e) = up_to e

abbrev pub stmts_of : List plain.Stmt → Stmts
stmts_of [] = no_stmts
stmts_of (s ∷ ss) = then_stmt s (stmts_of ss)

abbrev pub else_of : Option (Vec plain.Stmt Global) → Else
else_of None = no_else
else_of (Some ss) = or_else (stmts_of ss.items)

-- one level, with what is inside already seen as plain
abbrev pub form_step : ExprForm-F plain.Form BoundView plain.Expr → plain.Form
form_step (ExprForm-F.Int z) = plain.integer z
form_step (ExprForm-F.Str s) = plain.string s
form_step ExprForm-F.True = plain.truth true
form_step ExprForm-F.False = plain.truth false
form_step ExprForm-F.Null = plain.nothing
form_step (ExprForm-F.Var x) = plain.variable x
form_step (ExprForm-F.Call f es) = plain.call f (exprs_of es.items)
form_step (ExprForm-F.Builtin b es) = plain.builtin b (exprs_of es.items)
form_step (ExprForm-F.Array es) = plain.items (exprs_of es.items)
form_step (ExprForm-F.Object es) = plain.entries (entries_of es.items)
form_step (ExprForm-F.Group e) = plain.group e
form_step (ExprForm-F.Scan t i bs desc take) = plain.scan t i (bounds_of bs.items) desc (limit_of take)
form_step (ExprForm-F.Count t) = plain.count t
form_step (ExprForm-F.Get e) = plain.get e
form_step ExprForm-F.Now = plain.now
form_step (ExprForm-F.Insert t e) = plain.insert t e
form_step (ExprForm-F.Delete e) = plain.delete e
form_step (ExprForm-F.Patch e o) = plain.patch e o
form_step (ExprForm-F.Replace e o) = plain.replace e o
form_step (ExprForm-F.Field e n) = plain.field e n
form_step (ExprForm-F.Item a i) = plain.item a i
form_step (ExprForm-F.Unary op e) = plain.unary op e
form_step (ExprForm-F.Binary op a b) = plain.binary op a b

abbrev pub expr_step : Expr-F plain.Form BoundView plain.Expr → plain.Expr
expr_step e = plain.expr e.at e.form.value

abbrev pub bound_step : BoundExpr-F plain.Form BoundView plain.Expr → BoundView
bound_step b = (b.field, b.op, b.value)

abbrev pub expr_view : Expr → plain.Expr
expr_view = fold-Expr plain.Form BoundView plain.Expr form_step bound_step expr_step

abbrev pub bound_view : BoundExpr → BoundView
bound_view = fold-BoundExpr plain.Form BoundView plain.Expr form_step bound_step expr_step

abbrev pub form_view : ExprForm → plain.Form
form_view = fold-ExprForm plain.Form BoundView plain.Expr form_step bound_step expr_step

abbrev pub act_step : StmtForm-F plain.Act plain.Stmt → plain.Act
act_step (StmtForm-F.Let n e) = plain.declare n (expr_view e)
act_step (StmtForm-F.Assign n e) = plain.assign n (expr_view e)
act_step (StmtForm-F.Eval e) = plain.evaluate (expr_view e)
act_step (StmtForm-F.If e a b) = plain.choose (expr_view e) (stmts_of a.items) (else_of b)
act_step (StmtForm-F.For n e body) = plain.each n (expr_view e) (stmts_of body.items)
act_step (StmtForm-F.Return e) = plain.give_back (expr_view e)
act_step (StmtForm-F.Throw e) = plain.throw (expr_view e)

abbrev pub stmt_step : Stmt-F plain.Act plain.Stmt → plain.Stmt
stmt_step s = plain.stmt s.at s.form

abbrev pub stmt_view : Stmt → plain.Stmt
stmt_view = fold-Stmt plain.Act plain.Stmt act_step stmt_step

abbrev pub act_view : StmtForm → plain.Act
act_view = fold-StmtForm plain.Act plain.Stmt act_step stmt_step

-- the other branch of a choice
abbrev pub else_view : Option (Vec Stmt Global) → Else
else_view None = no_else
else_view (Some b) = or_else (stmts_of (map stmt_view b.items))

abbrev pub function_view : Function → FunctionTree
function_view f = record { kind = f.kind; udf = f.udf; params = f.params.items; body = stmts_of (map stmt_view f.body.items); at = f.at }

abbrev pub index_view : IndexDecl → IndexTree
index_view i = record { name = i.name; fields = i.fields.items }

abbrev pub table_view : TableDecl → TableTree
table_view t = record { name = t.name; indexes = map index_view t.indexes.items }

abbrev pub module_view : Module → ModuleTree
module_view m = record { tables = map table_view m.tables.items; functions = map function_view m.functions.items }
