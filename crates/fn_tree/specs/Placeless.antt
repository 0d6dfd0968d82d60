-- Trees that are the same but for their places.
use Rattle.std.specs.Prelude.{◌≡◌, map}
use Rattle.fn_tree.specs.SyntaxTree.{Expr, expr, Form, integer, string, truth, nothing, variable, call, builtin, items, entries, group, scan, count, get, now, insert, delete, patch, replace, field, item, unary, binary, Exprs, no_exprs, then_expr, Entries, no_entries, entry, Bounds, no_bounds, bound, Limit, all_rows, up_to, Stmt, stmt, Act, declare, assign, evaluate, choose, each, give_back, throw, Stmts, no_stmts, then_stmt, Else, no_else, or_else, FunctionTree, IndexTree, TableTree, ModuleTree}
use Rattle.fn_tree.specs.declared.syntax.Named.{Named}

-- each place is 0
abbrev pub placeless_name : Named → Named
placeless_name n = record n { at = 0 }

abbrev mutual
  pub placeless_expr : Expr → Expr
  placeless_expr (expr at f) = expr 0 (placeless_form f)

  pub placeless_form : Form → Form
  placeless_form (integer z) = integer z
  placeless_form (string s) = string s
  placeless_form (truth b) = truth b
  placeless_form nothing = nothing
  placeless_form (variable x) = variable x
  placeless_form (call f es) = call f (placeless_exprs es)
  placeless_form (builtin b es) = builtin b (placeless_exprs es)
  placeless_form (items es) = items (placeless_exprs es)
  placeless_form (entries es) = entries (placeless_entries es)
  placeless_form (group e) = group (placeless_expr e)
  placeless_form (scan t i bs desc l) = scan (placeless_name t) (placeless_name i) (placeless_bounds bs) desc (placeless_limit l)
  placeless_form (count t) = count (placeless_name t)
  placeless_form (get e) = get (placeless_expr e)
  placeless_form now = now
  placeless_form (insert t e) = insert (placeless_name t) (placeless_expr e)
  placeless_form (delete e) = delete (placeless_expr e)
  placeless_form (patch e o) = patch (placeless_expr e) (placeless_expr o)
  placeless_form (replace e o) = replace (placeless_expr e) (placeless_expr o)
  placeless_form (field e n) = field (placeless_expr e) (placeless_name n)
  placeless_form (item e i) = item (placeless_expr e) (placeless_expr i)
  placeless_form (unary op e) = unary op (placeless_expr e)
  placeless_form (binary op a b) = binary op (placeless_expr a) (placeless_expr b)

  pub placeless_exprs : Exprs → Exprs
  placeless_exprs no_exprs = no_exprs
  placeless_exprs (then_expr e es) = then_expr (placeless_expr e) (placeless_exprs es)

  pub placeless_entries : Entries → Entries
  placeless_entries no_entries = no_entries
  placeless_entries (entry n e es) = entry (placeless_name n) (placeless_expr e) (placeless_entries es)

  pub placeless_bounds : Bounds → Bounds
  placeless_bounds no_bounds = no_bounds
  placeless_bounds (bound n op e bs) = bound (placeless_name n) op (placeless_expr e) (placeless_bounds bs)

  pub placeless_limit : Limit → Limit
  placeless_limit all_rows = all_rows
  placeless_limit (up_to e) = up_to (placeless_expr e)

abbrev mutual
  pub placeless_stmt : Stmt → Stmt
  placeless_stmt (stmt at a) = stmt 0 (placeless_act a)

  pub placeless_act : Act → Act
  placeless_act (declare n e) = declare (placeless_name n) (placeless_expr e)
  placeless_act (assign n e) = assign (placeless_name n) (placeless_expr e)
  placeless_act (evaluate e) = evaluate (placeless_expr e)
  placeless_act (choose e ss o) = choose (placeless_expr e) (placeless_stmts ss) (placeless_else o)
  placeless_act (each n e ss) = each (placeless_name n) (placeless_expr e) (placeless_stmts ss)
  placeless_act (give_back e) = give_back (placeless_expr e)
  placeless_act (throw e) = throw (placeless_expr e)

  pub placeless_stmts : Stmts → Stmts
  placeless_stmts no_stmts = no_stmts
  placeless_stmts (then_stmt s ss) = then_stmt (placeless_stmt s) (placeless_stmts ss)

  pub placeless_else : Else → Else
  placeless_else no_else = no_else
  placeless_else (or_else ss) = or_else (placeless_stmts ss)

abbrev pub placeless_function : FunctionTree → FunctionTree
placeless_function f = record { kind = f.kind; udf = f.udf; params = map placeless_name f.params; body = placeless_stmts f.body; at = 0 }

abbrev pub placeless_index : IndexTree → IndexTree
placeless_index i = record { name = placeless_name i.name; fields = map placeless_name i.fields }

abbrev pub placeless_table : TableTree → TableTree
placeless_table t = record { name = placeless_name t.name; indexes = map placeless_index t.indexes }

abbrev pub placeless : ModuleTree → ModuleTree
placeless m = record { tables = map placeless_table m.tables; functions = map placeless_function m.functions }

-- two modules that differ in places alone
abbrev pub same_but_places : ModuleTree → ModuleTree → Type 0
same_but_places m n = placeless m ≡ placeless n
