-- What an expression does that a query may not do.
use Rattle.std.specs.Prelude.{Bool, true, false, ◌||◌, Option, None, Some}
use Rattle.fn_check.specs.Known.{Known, helper_of}
use Rattle.fn_check.specs.declared.effects.Effect.{Effect}
use Rattle.fn_check.specs.declared.effects.Effect.TheVariants.{Write, Now}
use Rattle.fn_check.specs.declared.scope.Helper.{Helper}
use Rattle.fn_tree.specs.SyntaxTree.{Expr, expr, Form, integer, string, truth, nothing, variable, call, builtin, items, entries, group, scan, count, get, now, insert, delete, patch, replace, field, item, unary, binary, Exprs, no_exprs, then_expr, Entries, no_entries, entry, Bounds, no_bounds, bound, Limit, all_rows, up_to, Stmt, stmt, Act, declare, assign, evaluate, choose, each, give_back, throw, Stmts, no_stmts, then_stmt, Else, no_else, or_else}

-- whether the effect is a write
abbrev pub is_write : Effect → Bool
is_write Write = true
is_write Now = false

-- whether the effect is a use of `now`
abbrev pub is_now : Effect → Bool
is_now Write = false
is_now Now = true

-- whether a call of a helper has the effect; one that is not known has none
abbrev pub helper_does : Effect → Option Helper → Bool
helper_does effect None = false
helper_does Write (Some helper) = helper.writes
helper_does Now (Some helper) = helper.uses_now

abbrev mutual
  -- whether an expression has the effect, in itself or through the helpers that it calls
  pub expr_does : Effect → Known → Expr → Bool
  expr_does effect known (expr at form) = form_does effect known form

  -- of a form
  pub form_does : Effect → Known → Form → Bool
  form_does effect known (integer n) = false
  form_does effect known (string s) = false
  form_does effect known (truth b) = false
  form_does effect known nothing = false
  form_does effect known (variable x) = false
  form_does effect known (call f es) = helper_does effect (helper_of known f) || exprs_do effect known es
  form_does effect known (builtin b es) = exprs_do effect known es
  form_does effect known (items es) = exprs_do effect known es
  form_does effect known (entries es) = entries_do effect known es
  form_does effect known (group e) = expr_does effect known e
  form_does effect known (scan t i bs desc l) = bounds_do effect known bs || limit_does effect known l
  form_does effect known (count t) = false
  form_does effect known (get e) = expr_does effect known e
  form_does effect known now = is_now effect
  form_does effect known (insert t e) = is_write effect || expr_does effect known e
  form_does effect known (delete e) = is_write effect || expr_does effect known e
  form_does effect known (patch e o) = is_write effect || expr_does effect known e || expr_does effect known o
  form_does effect known (replace e o) = is_write effect || expr_does effect known e || expr_does effect known o
  form_does effect known (field e n) = expr_does effect known e
  form_does effect known (item a i) = expr_does effect known a || expr_does effect known i
  form_does effect known (unary op e) = expr_does effect known e
  form_does effect known (binary op a b) = expr_does effect known a || expr_does effect known b

  -- of a list
  pub exprs_do : Effect → Known → Exprs → Bool
  exprs_do effect known no_exprs = false
  exprs_do effect known (then_expr e es) = expr_does effect known e || exprs_do effect known es

  -- of the entries of an object
  pub entries_do : Effect → Known → Entries → Bool
  entries_do effect known no_entries = false
  entries_do effect known (entry n e es) = expr_does effect known e || entries_do effect known es

  -- of the values of bounds
  pub bounds_do : Effect → Known → Bounds → Bool
  bounds_do effect known no_bounds = false
  bounds_do effect known (bound f op e bs) = expr_does effect known e || bounds_do effect known bs

  -- of what limits a scan
  pub limit_does : Effect → Known → Limit → Bool
  limit_does effect known all_rows = false
  limit_does effect known (up_to e) = expr_does effect known e

abbrev mutual
  -- whether a statement has the effect
  pub stmt_does : Effect → Known → Stmt → Bool
  stmt_does effect known (stmt at act) = act_does effect known act

  -- of a statement without its place
  pub act_does : Effect → Known → Act → Bool
  act_does effect known (declare n e) = expr_does effect known e
  act_does effect known (assign n e) = expr_does effect known e
  act_does effect known (evaluate e) = expr_does effect known e
  act_does effect known (choose e a b) = expr_does effect known e || stmts_do effect known a || else_does effect known b
  act_does effect known (each n e body) = expr_does effect known e || stmts_do effect known body
  act_does effect known (give_back e) = expr_does effect known e
  act_does effect known (throw e) = expr_does effect known e

  -- whether statements have the effect
  pub stmts_do : Effect → Known → Stmts → Bool
  stmts_do effect known no_stmts = false
  stmts_do effect known (then_stmt s ss) = stmt_does effect known s || stmts_do effect known ss

  -- of the other branch of a choice
  pub else_does : Effect → Known → Else → Bool
  else_does effect known no_else = false
  else_does effect known (or_else ss) = stmts_do effect known ss
