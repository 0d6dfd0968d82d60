-- The plain form of each form of an expression, and the plain statement of each statement.
use Rattle.std.proofs.Common.{◌≡◌, ℤ, Bool, true, false, List, ℕ, map, Option, Some, None, Vec, ap, sym, ◌∙◌}
use Rattle.std.specs.declared.alloc.Global.{Global}
use Rattle.fn_tree.specs.ParseTrees.{at_of}
use Rattle.fn_tree.specs.SyntaxTree as plain
use Rattle.fn_tree.specs.SyntaxViews.{expr_view, form_view, bound_view, exprs_of, entries_of, bounds_of, limit_of, stmt_view, act_view, stmts_of, else_view}
use Rattle.fn_tree.specs.declared.syntax.BinaryOp.{BinaryOp}
use Rattle.fn_tree.specs.declared.syntax.BoundExpr.{BoundExpr}
use Rattle.fn_tree.specs.declared.syntax.Builtin.{Builtin}
use Rattle.fn_tree.specs.declared.syntax.Expr.{Expr}
use Rattle.fn_tree.specs.declared.syntax.ExprForm.TheVariants as form
use Rattle.fn_tree.specs.declared.syntax.ExprForm.TheFolds.{fold-roll-ExprForm, fold_out-Expr}
use Rattle.fn_tree.specs.SyntaxViews.{BoundView, form_step, bound_step, expr_step, act_step, stmt_step}
use Rattle.std.specs.Option.{option_map}
use Rattle.fn_tree.specs.declared.syntax.Stmt.{Stmt}
use Rattle.fn_tree.specs.declared.syntax.StmtForm.TheFolds.{fold-roll-StmtForm}
use Rattle.fn_tree.specs.declared.syntax.StmtForm.TheVariants as act
use Rattle.fn_tree.specs.declared.syntax.Named.{Named}
use Rattle.fn_tree.specs.declared.syntax.UnaryOp.{UnaryOp}

pub form-Int : (z : ℤ) → form_view (form.Int z) ≡ plain.integer z
form-Int z = ap form_view (sym (form.rolls-Int z)) ∙ fold-roll-ExprForm plain.Form BoundView plain.Expr form_step bound_step expr_step _

pub form-Str : (s : List ℕ) → form_view (form.Str s) ≡ plain.string s
form-Str s = ap form_view (sym (form.rolls-Str s)) ∙ fold-roll-ExprForm plain.Form BoundView plain.Expr form_step bound_step expr_step _

pub form-True : form_view form.True ≡ plain.truth true
form-True = ap form_view (sym form.rolls-True) ∙ fold-roll-ExprForm plain.Form BoundView plain.Expr form_step bound_step expr_step _

pub form-False : form_view form.False ≡ plain.truth false
form-False = ap form_view (sym form.rolls-False) ∙ fold-roll-ExprForm plain.Form BoundView plain.Expr form_step bound_step expr_step _

pub form-Null : form_view form.Null ≡ plain.nothing
form-Null = ap form_view (sym form.rolls-Null) ∙ fold-roll-ExprForm plain.Form BoundView plain.Expr form_step bound_step expr_step _

pub form-Var : (x : List ℕ) → form_view (form.Var x) ≡ plain.variable x
form-Var x = ap form_view (sym (form.rolls-Var x)) ∙ fold-roll-ExprForm plain.Form BoundView plain.Expr form_step bound_step expr_step _

pub form-Call : (f : List ℕ) (es : Vec Expr Global) → form_view (form.Call f es) ≡ plain.call f (exprs_of (map expr_view es.items))
form-Call f es = ap form_view (sym (form.rolls-Call f es)) ∙ fold-roll-ExprForm plain.Form BoundView plain.Expr form_step bound_step expr_step _

pub form-Builtin : (b : Builtin) (es : Vec Expr Global) → form_view (form.Builtin b es) ≡ plain.builtin b (exprs_of (map expr_view es.items))
form-Builtin b es = ap form_view (sym (form.rolls-Builtin b es)) ∙ fold-roll-ExprForm plain.Form BoundView plain.Expr form_step bound_step expr_step _

pub form-Array : (es : Vec Expr Global) → form_view (form.Array es) ≡ plain.items (exprs_of (map expr_view es.items))
form-Array es = ap form_view (sym (form.rolls-Array es)) ∙ fold-roll-ExprForm plain.Form BoundView plain.Expr form_step bound_step expr_step _

pub form-Group : (e : Expr) → form_view (form.Group e) ≡ plain.group (expr_view e)
form-Group e = ap form_view (sym (form.rolls-Group e)) ∙ fold-roll-ExprForm plain.Form BoundView plain.Expr form_step bound_step expr_step _

pub form-Count : (t : Named) → form_view (form.Count t) ≡ plain.count t
form-Count t = ap form_view (sym (form.rolls-Count t)) ∙ fold-roll-ExprForm plain.Form BoundView plain.Expr form_step bound_step expr_step _

pub form-Get : (e : Expr) → form_view (form.Get e) ≡ plain.get (expr_view e)
form-Get e = ap form_view (sym (form.rolls-Get e)) ∙ fold-roll-ExprForm plain.Form BoundView plain.Expr form_step bound_step expr_step _

pub form-Now : form_view form.Now ≡ plain.now
form-Now = ap form_view (sym form.rolls-Now) ∙ fold-roll-ExprForm plain.Form BoundView plain.Expr form_step bound_step expr_step _

pub form-Insert : (t : Named) (e : Expr) → form_view (form.Insert t e) ≡ plain.insert t (expr_view e)
form-Insert t e = ap form_view (sym (form.rolls-Insert t e)) ∙ fold-roll-ExprForm plain.Form BoundView plain.Expr form_step bound_step expr_step _

pub form-Delete : (e : Expr) → form_view (form.Delete e) ≡ plain.delete (expr_view e)
form-Delete e = ap form_view (sym (form.rolls-Delete e)) ∙ fold-roll-ExprForm plain.Form BoundView plain.Expr form_step bound_step expr_step _

pub form-Patch : (e o : Expr) → form_view (form.Patch e o) ≡ plain.patch (expr_view e) (expr_view o)
form-Patch e o = ap form_view (sym (form.rolls-Patch e o)) ∙ fold-roll-ExprForm plain.Form BoundView plain.Expr form_step bound_step expr_step _

pub form-Replace : (e o : Expr) → form_view (form.Replace e o) ≡ plain.replace (expr_view e) (expr_view o)
form-Replace e o = ap form_view (sym (form.rolls-Replace e o)) ∙ fold-roll-ExprForm plain.Form BoundView plain.Expr form_step bound_step expr_step _

pub form-Field : (e : Expr) (n : Named) → form_view (form.Field e n) ≡ plain.field (expr_view e) n
form-Field e n = ap form_view (sym (form.rolls-Field e n)) ∙ fold-roll-ExprForm plain.Form BoundView plain.Expr form_step bound_step expr_step _

pub form-Item : (e i : Expr) → form_view (form.Item e i) ≡ plain.item (expr_view e) (expr_view i)
form-Item e i = ap form_view (sym (form.rolls-Item e i)) ∙ fold-roll-ExprForm plain.Form BoundView plain.Expr form_step bound_step expr_step _

pub form-Unary : (op : UnaryOp) (e : Expr) → form_view (form.Unary op e) ≡ plain.unary op (expr_view e)
form-Unary op e = ap form_view (sym (form.rolls-Unary op e)) ∙ fold-roll-ExprForm plain.Form BoundView plain.Expr form_step bound_step expr_step _

pub form-Binary : (op : BinaryOp) (a b : Expr) → form_view (form.Binary op a b) ≡ plain.binary op (expr_view a) (expr_view b)
form-Binary op a b = ap form_view (sym (form.rolls-Binary op a b)) ∙ fold-roll-ExprForm plain.Form BoundView plain.Expr form_step bound_step expr_step _

pub form-Object : (es : Vec (Named × Expr) Global) → form_view (form.Object es) ≡ plain.entries (entries_of (map (λ p. (p.0, expr_view p.1)) es.items))
form-Object es = ap form_view (sym (form.rolls-Object es)) ∙ fold-roll-ExprForm plain.Form BoundView plain.Expr form_step bound_step expr_step _

pub form-Scan : (t i : Named) (bs : Vec BoundExpr Global) (desc : Bool) (l : Option Expr) → form_view (form.Scan t i bs desc l) ≡ plain.scan t i (bounds_of (map bound_view bs.items)) desc (limit_of (option_map expr_view l))
form-Scan t i bs desc None = ap form_view (sym (form.rolls-Scan t i bs desc None)) ∙ fold-roll-ExprForm plain.Form BoundView plain.Expr form_step bound_step expr_step _
form-Scan t i bs desc (Some l) = ap form_view (sym (form.rolls-Scan t i bs desc (Some l))) ∙ fold-roll-ExprForm plain.Form BoundView plain.Expr form_step bound_step expr_step _

pub act-Let : (n : Named) (e : Expr) → act_view (act.Let n e) ≡ plain.declare n (expr_view e)
act-Let n e = ap act_view (sym (act.rolls-Let n e)) ∙ fold-roll-StmtForm plain.Act plain.Stmt act_step stmt_step _

pub act-Assign : (n : Named) (e : Expr) → act_view (act.Assign n e) ≡ plain.assign n (expr_view e)
act-Assign n e = ap act_view (sym (act.rolls-Assign n e)) ∙ fold-roll-StmtForm plain.Act plain.Stmt act_step stmt_step _

pub act-Eval : (e : Expr) → act_view (act.Eval e) ≡ plain.evaluate (expr_view e)
act-Eval e = ap act_view (sym (act.rolls-Eval e)) ∙ fold-roll-StmtForm plain.Act plain.Stmt act_step stmt_step _

pub act-If : (e : Expr) (a : Vec Stmt Global) (b : Option (Vec Stmt Global)) → act_view (act.If e a b) ≡ plain.choose (expr_view e) (stmts_of (map stmt_view a.items)) (else_view b)
act-If e a None = ap act_view (sym (act.rolls-If e a None)) ∙ fold-roll-StmtForm plain.Act plain.Stmt act_step stmt_step _
act-If e a (Some b) = ap act_view (sym (act.rolls-If e a (Some b))) ∙ fold-roll-StmtForm plain.Act plain.Stmt act_step stmt_step _

pub act-For : (n : Named) (e : Expr) (a : Vec Stmt Global) → act_view (act.For n e a) ≡ plain.each n (expr_view e) (stmts_of (map stmt_view a.items))
act-For n e a = ap act_view (sym (act.rolls-For n e a)) ∙ fold-roll-StmtForm plain.Act plain.Stmt act_step stmt_step _

pub act-Return : (e : Expr) → act_view (act.Return e) ≡ plain.give_back (expr_view e)
act-Return e = ap act_view (sym (act.rolls-Return e)) ∙ fold-roll-StmtForm plain.Act plain.Stmt act_step stmt_step _

pub act-Throw : (e : Expr) → act_view (act.Throw e) ≡ plain.throw (expr_view e)
act-Throw e = ap act_view (sym (act.rolls-Throw e)) ∙ fold-roll-StmtForm plain.Act plain.Stmt act_step stmt_step _

-- an expression's view begins where it begins
pub view_at : (e : Expr) → at_of (expr_view e) ≡ e.at
view_at e = ap at_of (fold_out-Expr plain.Form BoundView plain.Expr form_step bound_step expr_step e)
