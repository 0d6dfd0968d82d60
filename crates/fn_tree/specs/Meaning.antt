-- What a function's body does: a recursion over its tree, one case for each form.
use Rattle.std.specs.Prelude.{ℕ, nat_le, if◌then◌else◌, List, [], ◌∷◌, ◌++◌, length, false, Option, None, codes}
use Rattle.cv_values.specs.Value.{Value, null, int, boolean, string}
use Rattle.fn_ops.specs.Operations as ops
use Rattle.fn_tree.specs.Actions.{Counts, Action, ◌>>=◌, ◌>>◌, give, fail, or_type_error, Scope, Site, spend, given, as_truth, as_items, as_text}
use Rattle.fn_tree.specs.Course.{Course}
use Rattle.fn_tree.specs.Names.{at_name, assigned, outside}
use Rattle.fn_tree.specs.Operators.{unary_value, both, binary_value, builtin_value}
use Rattle.fn_tree.specs.Reading.{get_value, limit_of, scan_value}
use Rattle.fn_tree.specs.SyntaxTree.{Expr, expr, Form, integer, string as text, truth, nothing, variable, call, builtin, items, entries, group, scan, count, get, now, insert, delete, patch, replace, field, item, unary, binary, Exprs, no_exprs, then_expr, Entries, no_entries, entry, Bounds, no_bounds, bound, Limit, all_rows, up_to, Stmt, stmt, Act, declare, assign, evaluate, choose, each, give_back, throw, Stmts, no_stmts, then_stmt, Else, no_else, or_else}
use Rattle.fn_tree.specs.Writing.{origin_of, insert_value, with_members, change_value, delete_value}
use Rattle.fn_tree.specs.declared.syntax.CompareOp.{CompareOp}

-- a helper is called by its name
abbrev pub helper_value : Site → List ℕ → List Value → Action Value
helper_value site h vs = do
  spend site
  f ← or_type_error (at_name h site.helpers)
  f vs

-- ---- expressions

abbrev mutual
  pub expr_means : Expr → Site → Scope → Action Value
  expr_means (expr at f) site scope = form_means f site scope

  pub form_means : Form → Site → Scope → Action Value
  form_means (integer z) site scope = give (int z)
  form_means (text s) site scope = give (string s)
  form_means (truth b) site scope = give (boolean b)
  form_means nothing site scope = give null
  form_means (variable x) site scope = or_type_error (at_name x scope)
  form_means (call h es) site scope = exprs_mean es site scope >>= helper_value site h
  form_means (builtin b es) site scope = exprs_mean es site scope >>= (λ vs. given (builtin_value b vs))
  form_means (items es) site scope = exprs_mean es site scope >>= (λ vs. given (ops.array_of vs))
  form_means (entries es) site scope = entries_mean es site scope >>= (λ ms. given (ops.object_of (with_members ms [])))
  form_means (group e) site scope = expr_means e site scope
  form_means (scan t i bs desc l) site scope = do
    bounds ← bounds_mean bs site scope
    most ← limit_means l site scope
    scan_value site t.text i.text bounds desc most
  form_means (count t) site scope = do
    v ← scan_value site t.text (codes "by_creation_time") [] false None
    given (ops.length_of v)
  form_means (get e) site scope = expr_means e site scope >>= get_value site
  form_means now site scope = origin_of site >>= (λ o. give (int o.now))
  form_means (insert t e) site scope = expr_means e site scope >>= insert_value site t.text
  form_means (delete e) site scope = expr_means e site scope >>= delete_value site
  form_means (patch e o) site scope = do
    v ← expr_means e site scope
    w ← expr_means o site scope
    change_value site with_members v w
  form_means (replace e o) site scope = do
    v ← expr_means e site scope
    w ← expr_means o site scope
    change_value site (λ new old. new) v w
  form_means (field e n) site scope = expr_means e site scope >>= (λ v. given (ops.field v n.text))
  form_means (item a i) site scope = both (expr_means a site scope) (expr_means i site scope) ops.item
  form_means (unary op e) site scope = expr_means e site scope >>= (λ v. given (unary_value op v))
  form_means (binary op a b) site scope = binary_value op (expr_means a site scope) (expr_means b site scope)

  pub exprs_mean : Exprs → Site → Scope → Action (List Value)
  exprs_mean no_exprs site scope = give []
  exprs_mean (then_expr e es) site scope = do
    v ← expr_means e site scope
    vs ← exprs_mean es site scope
    give (v ∷ vs)

  -- names with values, in the order of the text
  pub entries_mean : Entries → Site → Scope → Action (List (List ℕ × Value))
  entries_mean no_entries site scope = give []
  entries_mean (entry n e es) site scope = do
    v ← expr_means e site scope
    ms ← entries_mean es site scope
    give ((n.text, v) ∷ ms)

  pub bounds_mean : Bounds → Site → Scope → Action (List (CompareOp × Value))
  bounds_mean no_bounds site scope = give []
  bounds_mean (bound n op e bs) site scope = do
    v ← expr_means e site scope
    vs ← bounds_mean bs site scope
    give ((op, v) ∷ vs)

  pub limit_means : Limit → Site → Scope → Action (Option ℕ)
  limit_means all_rows site scope = give None
  limit_means (up_to e) site scope = expr_means e site scope >>= limit_of

-- ---- statements

-- where a `return` goes
abbrev pub Return : Type 0
Return = Value → Counts → Course

-- the greatest length of a string that may be thrown
abbrev pub thrown_bytes : ℕ
thrown_bytes = 1048576

abbrev pub throw_text : List ℕ → List ℕ
throw_text s = if nat_le (length s) thrown_bytes then codes "Thrown: " ++ s else codes "TooLarge"

-- one turn for each item, in order
abbrev pub turns : Site → (Value → Scope → Action Scope) → List Value → Scope → Action Scope
turns site turn [] scope = give scope
turns site turn (v ∷ vs) scope = do
  spend site
  after ← turn v scope
  turns site turn vs after

abbrev mutual
  pub stmt_means : Stmt → Site → Return → Scope → Action Scope
  stmt_means (stmt at a) site back scope = do
    spend site
    act_means a site back scope

  pub act_means : Act → Site → Return → Scope → Action Scope
  act_means (declare x e) site back scope = expr_means e site scope >>= (λ v. give (scope ++ (x.text, v) ∷ []))
  act_means (assign x e) site back scope = expr_means e site scope >>= (λ v. or_type_error (assigned x.text v scope))
  act_means (evaluate e) site back scope = expr_means e site scope >>= (λ v. give scope)
  act_means (choose e a b) site back scope = do
    v ← expr_means e site scope
    x ← as_truth v
    after ← if x then stmts_mean a site back scope else else_means b site back scope
    give (outside scope after)
  act_means (each x e body) site back scope = do
    v ← expr_means e site scope
    vs ← as_items v
    turns site (λ w before. do
      after ← stmts_mean body site back (before ++ (x.text, w) ∷ [])
      give (outside before after)) vs scope
  act_means (give_back e) site back scope = λ c next. expr_means e site scope c back
  act_means (throw e) site back scope = do
    v ← expr_means e site scope
    s ← as_text v
    fail (throw_text s)

  pub stmts_mean : Stmts → Site → Return → Scope → Action Scope
  stmts_mean no_stmts site back scope = give scope
  stmts_mean (then_stmt s ss) site back scope = stmt_means s site back scope >>= stmts_mean ss site back

  pub else_means : Else → Site → Return → Scope → Action Scope
  else_means no_else site back scope = give scope
  else_means (or_else ss) site back scope = stmts_mean ss site back scope

-- a body that ends without `return` gives null
abbrev pub body_means : Stmts → Site → Scope → Action Value
body_means body site scope = λ c back. stmts_mean body site back scope c (λ after d. back null d)
