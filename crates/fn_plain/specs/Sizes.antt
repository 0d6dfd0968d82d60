-- How large trees are, and the functions before a number: by it the walk ends.
use Rattle.std.specs.Prelude.{ℕ, zero, suc, ◌+◌, List, [], ◌∷◌, map}
use Rattle.fn_tree.specs.SyntaxTree.{Expr, expr, Form, integer, string as text, truth, nothing, variable, call, builtin, items, entries, group, scan, count, get, now, insert, delete, patch, replace, field, item, unary, binary, Exprs, no_exprs, then_expr, Entries, no_entries, entry, Bounds, no_bounds, bound, Limit, all_rows, up_to, Stmt, stmt, Act, declare, assign, evaluate, choose, each, give_back, throw, Stmts, no_stmts, then_stmt, Else, no_else, or_else, FunctionTree}
use Rattle.fn_tree.specs.SyntaxViews.{function_view}
use Rattle.fn_plain.specs.declared.context.Context.{Context}

abbrev mutual
  pub expr_size : Expr → ℕ
  expr_size (expr at f) = form_size f + 1

  pub form_size : Form → ℕ
  form_size (integer z) = 0
  form_size (text s) = 0
  form_size (truth b) = 0
  form_size nothing = 0
  form_size (variable x) = 0
  form_size (call h es) = exprs_size es
  form_size (builtin b es) = exprs_size es
  form_size (items es) = exprs_size es
  form_size (entries es) = entries_size es
  form_size (group e) = expr_size e
  form_size (scan t i bs desc l) = bounds_size bs + limit_size l
  form_size (count t) = 0
  form_size (get e) = expr_size e
  form_size now = 0
  form_size (insert t e) = expr_size e
  form_size (delete e) = expr_size e
  form_size (patch e o) = expr_size e + expr_size o
  form_size (replace e o) = expr_size e + expr_size o
  form_size (field e n) = expr_size e
  form_size (item a i) = expr_size a + expr_size i
  form_size (unary op e) = expr_size e
  form_size (binary op a b) = expr_size a + expr_size b + 1

  pub exprs_size : Exprs → ℕ
  exprs_size no_exprs = 0
  exprs_size (then_expr e es) = expr_size e + exprs_size es + 1

  pub entries_size : Entries → ℕ
  entries_size no_entries = 0
  entries_size (entry n e es) = expr_size e + entries_size es + 1

  pub bounds_size : Bounds → ℕ
  bounds_size no_bounds = 0
  bounds_size (bound n op e bs) = expr_size e + bounds_size bs + 1

  pub limit_size : Limit → ℕ
  limit_size all_rows = 0
  limit_size (up_to e) = expr_size e + 1

abbrev mutual
  pub stmt_size : Stmt → ℕ
  stmt_size (stmt at a) = act_size a + 1

  pub act_size : Act → ℕ
  act_size (declare x e) = expr_size e
  act_size (assign x e) = expr_size e
  act_size (evaluate e) = expr_size e
  act_size (choose e a b) = expr_size e + stmts_size a + else_size b
  act_size (each x e body) = expr_size e + stmts_size body + 1
  act_size (give_back e) = expr_size e
  act_size (throw e) = expr_size e

  pub stmts_size : Stmts → ℕ
  stmts_size no_stmts = 0
  stmts_size (then_stmt s ss) = stmt_size s + stmts_size ss + 1

  pub else_size : Else → ℕ
  else_size no_else = 0
  else_size (or_else ss) = stmts_size ss

-- the functions before a number
abbrev pub size_before : List FunctionTree → ℕ → ℕ
size_before [] n = 0
size_before (f ∷ fs) zero = 0
size_before (f ∷ fs) (suc n) = stmts_size f.body + 3 + size_before fs n

-- how much is left to walk from a function of this number, besides its own statements
abbrev pub size_at : Context → ℕ → ℕ
size_at c n = size_before (map function_view c.functions.now) n + 1
