-- The bodies of functions ask only for what is there: an induction over their trees.
use Rattle.std.proofs.Common.{◌≡◌, ℕ, Bool, true, false, List, [], ◌∷◌, ◌++◌, Option, Some, None, refl}
use Rattle.std.specs.Prelude.{codes}
use Rattle.cv_values.specs.Value.{Value, null}
use Rattle.fn_tree.proofs.ActionsAsk.{Goes, Keeps, keeps_bind, keeps_then, keeps_give, keeps_fail, keeps_given, keeps_or_type_error, keeps_truth, keeps_items, keeps_text, keeps_limit, keeps_choice, keeps_spend, keeps_scan_value, keeps_get, keeps_insert, keeps_change, keeps_delete}
use Rattle.fn_ops.specs.Operations as ops
use Rattle.fn_tree.specs.Actions.{Action, ◌>>=◌, or_type_error, Meaning, Scope, Site}
use Rattle.fn_tree.specs.Functions.{function_means}
use Rattle.fn_tree.specs.Meaning.{Return, helper_value, expr_means, form_means, exprs_mean, entries_mean, bounds_mean, limit_means, turns, stmt_means, act_means, stmts_mean, else_means}
use Rattle.fn_tree.specs.Names.{at_name, assigned, bound_to}
use Rattle.fn_tree.specs.Operators.{unary_value, eager_value, both, right_side, either, binary_value, builtin_value}
use Rattle.fn_tree.specs.SyntaxTree.{Expr, expr, Form, integer, string as text, truth, nothing, variable, call, builtin, items, entries, group, scan, count, get, now, insert, delete, patch, replace, field, item, unary, binary, Exprs, no_exprs, then_expr, Entries, no_entries, entry, Bounds, no_bounds, bound, Limit, all_rows, up_to, Stmt, stmt, Act, declare, assign, evaluate, choose, each, give_back, throw, Stmts, no_stmts, then_stmt, Else, no_else, or_else, FunctionTree}
use Rattle.fn_tree.specs.Writing.{with_members}
use Rattle.fn_tree.specs.declared.syntax.BinaryOp.{BinaryOp}
use Rattle.fn_tree.specs.declared.syntax.BinaryOp.TheVariants.{Or, And, Compare, Add, Subtract, Multiply, Divide, Remainder}

-- each helper asks only for what is there
abbrev pub Helped : Site → Type 0
Helped site = (h : List ℕ) (f : Meaning) → at_name h site.helpers ≡ Some f → (vs : List Value) → Keeps site.schema (f vs)

module _ (site : Site) (helped : Helped site) where
  abbrev Kept : {A : Type 0} → Action A → Type 0
  Kept act = Keeps site.schema act

  -- what a `return` goes on with
  abbrev Returns : Return → Type 0
  Returns back = Goes site.schema back

  keeps_helper : (h : List ℕ) (vs : List Value) → Kept (helper_value site h vs)
  keeps_helper h vs = keeps_then (keeps_spend site) (go (at_name h site.helpers) refl)
    where
      go : (x : Option Meaning) → at_name h site.helpers ≡ x → Kept (or_type_error x >>= (λ f. f vs))
      go None e = record { by = λ next goes c. tt }
      go (Some f) e = helped h f e vs

  keeps_both : {a b : Action Value} (op : Value → Value → ops.Given) → Kept a → Kept b → Kept (both a b op)
  keeps_both op h k = keeps_bind h (λ v. keeps_bind k (λ w. keeps_given (op v w)))

  keeps_right : (decides x : Bool) {b : Action Value} → Kept b → Kept (right_side decides x b)
  keeps_right true true k = keeps_give _
  keeps_right false false k = keeps_give _
  keeps_right true false k = keeps_bind k (λ w. keeps_bind (keeps_truth w) (λ y. keeps_give _))
  keeps_right false true k = keeps_bind k (λ w. keeps_bind (keeps_truth w) (λ y. keeps_give _))

  keeps_either : (decides : Bool) {a b : Action Value} → Kept a → Kept b → Kept (either decides a b)
  keeps_either decides h k = keeps_bind h (λ v. keeps_bind (keeps_truth v) (λ x. keeps_right decides x k))

  keeps_binary : (op : BinaryOp) {a b : Action Value} → Kept a → Kept b → Kept (binary_value op a b)
  keeps_binary Or h k = keeps_either true h k
  keeps_binary And h k = keeps_either false h k
  keeps_binary (Compare op) h k = keeps_both (eager_value (Compare op)) h k
  keeps_binary Add h k = keeps_both (eager_value Add) h k
  keeps_binary Subtract h k = keeps_both (eager_value Subtract) h k
  keeps_binary Multiply h k = keeps_both (eager_value Multiply) h k
  keeps_binary Divide h k = keeps_both (eager_value Divide) h k
  keeps_binary Remainder h k = keeps_both (eager_value Remainder) h k

  mutual
    expr_keeps : (e : Expr) (scope : Scope) → Kept (expr_means e site scope)
    expr_keeps (expr at f) scope = form_keeps f scope

    form_keeps : (f : Form) (scope : Scope) → Kept (form_means f site scope)
    form_keeps (integer z) scope = keeps_give _
    form_keeps (text s) scope = keeps_give _
    form_keeps (truth b) scope = keeps_give _
    form_keeps nothing scope = keeps_give _
    form_keeps (variable x) scope = keeps_or_type_error (at_name x scope)
    form_keeps (call h es) scope = keeps_bind (exprs_keep es scope) (keeps_helper h)
    form_keeps (builtin b es) scope = keeps_bind (exprs_keep es scope) (λ vs. keeps_given (builtin_value b vs))
    form_keeps (items es) scope = keeps_bind (exprs_keep es scope) (λ vs. keeps_given (ops.array_of vs))
    form_keeps (entries es) scope = keeps_bind (entries_keep es scope) (λ ms. keeps_given (ops.object_of (with_members ms [])))
    form_keeps (group e) scope = expr_keeps e scope
    form_keeps (scan t i bs desc l) scope = keeps_bind (bounds_keep bs scope) (λ bounds. keeps_bind (limit_keeps l scope) (λ most. keeps_scan_value site t.text i.text bounds desc most))
    form_keeps (count t) scope = keeps_bind (keeps_scan_value site t.text (codes "by_creation_time") [] false None) (λ v. keeps_given (ops.length_of v))
    form_keeps (get e) scope = keeps_bind (expr_keeps e scope) (keeps_get site)
    form_keeps now scope = keeps_bind (keeps_or_type_error site.origin) (λ o. keeps_give _)
    form_keeps (insert t e) scope = keeps_bind (expr_keeps e scope) (keeps_insert site t.text)
    form_keeps (delete e) scope = keeps_bind (expr_keeps e scope) (keeps_delete site)
    form_keeps (patch e w) scope = keeps_bind (expr_keeps e scope) (λ v. keeps_bind (expr_keeps w scope) (λ x. keeps_change site with_members v x))
    form_keeps (replace e w) scope = keeps_bind (expr_keeps e scope) (λ v. keeps_bind (expr_keeps w scope) (λ x. keeps_change site (λ new old. new) v x))
    form_keeps (field e n) scope = keeps_bind (expr_keeps e scope) (λ v. keeps_given (ops.field v n.text))
    form_keeps (item a i) scope = keeps_both ops.item (expr_keeps a scope) (expr_keeps i scope)
    form_keeps (unary op e) scope = keeps_bind (expr_keeps e scope) (λ v. keeps_given (unary_value op v))
    form_keeps (binary op a b) scope = keeps_binary op (expr_keeps a scope) (expr_keeps b scope)

    exprs_keep : (es : Exprs) (scope : Scope) → Kept (exprs_mean es site scope)
    exprs_keep no_exprs scope = keeps_give _
    exprs_keep (then_expr e es) scope = keeps_bind (expr_keeps e scope) (λ v. keeps_bind (exprs_keep es scope) (λ vs. keeps_give _))

    entries_keep : (es : Entries) (scope : Scope) → Kept (entries_mean es site scope)
    entries_keep no_entries scope = keeps_give _
    entries_keep (entry n e es) scope = keeps_bind (expr_keeps e scope) (λ v. keeps_bind (entries_keep es scope) (λ ms. keeps_give _))

    bounds_keep : (bs : Bounds) (scope : Scope) → Kept (bounds_mean bs site scope)
    bounds_keep no_bounds scope = keeps_give _
    bounds_keep (bound n op e bs) scope = keeps_bind (expr_keeps e scope) (λ v. keeps_bind (bounds_keep bs scope) (λ vs. keeps_give _))

    limit_keeps : (l : Limit) (scope : Scope) → Kept (limit_means l site scope)
    limit_keeps all_rows scope = keeps_give _
    limit_keeps (up_to e) scope = keeps_bind (expr_keeps e scope) keeps_limit

  turns_keep : (turn : Value → Scope → Action Scope) → ((v : Value) (scope : Scope) → Kept (turn v scope)) → (vs : List Value) (scope : Scope) → Kept (turns site turn vs scope)
  turns_keep turn h [] scope = keeps_give _
  turns_keep turn h (v ∷ vs) scope = keeps_then (keeps_spend site) (keeps_bind (h v scope) (turns_keep turn h vs))

  mutual
    stmt_keeps : (s : Stmt) (back : Return) → Returns back → (scope : Scope) → Kept (stmt_means s site back scope)
    stmt_keeps (stmt at a) back goes scope = keeps_then (keeps_spend site) (act_keeps a back goes scope)

    act_keeps : (a : Act) (back : Return) → Returns back → (scope : Scope) → Kept (act_means a site back scope)
    act_keeps (declare x e) back goes scope = keeps_bind (expr_keeps e scope) (λ v. keeps_give _)
    act_keeps (assign x e) back goes scope = keeps_bind (expr_keeps e scope) (λ v. keeps_or_type_error (assigned x.text v scope))
    act_keeps (evaluate e) back goes scope = keeps_bind (expr_keeps e scope) (λ v. keeps_give _)
    act_keeps (choose e a b) back goes scope = keeps_bind (expr_keeps e scope) (λ v. keeps_bind (keeps_truth v) (λ x.
        keeps_bind (keeps_choice x (stmts_keep a back goes scope) (else_keeps b back goes scope)) (λ after. keeps_give _)))
    act_keeps (each x e body) back goes scope = keeps_bind (expr_keeps e scope) (λ v. keeps_bind (keeps_items v) (λ vs.
        turns_keep _ (λ w before. keeps_bind (stmts_keep body back goes (before ++ (x.text, w) ∷ [])) (λ after. keeps_give _)) vs scope))
    act_keeps (give_back e) back goes scope = record { by = λ next _ c. (expr_keeps e scope).by back goes c }
    act_keeps (throw e) back goes scope = keeps_bind (expr_keeps e scope) (λ v. keeps_bind (keeps_text v) (λ s. keeps_fail _))

    stmts_keep : (ss : Stmts) (back : Return) → Returns back → (scope : Scope) → Kept (stmts_mean ss site back scope)
    stmts_keep no_stmts back goes scope = keeps_give _
    stmts_keep (then_stmt s ss) back goes scope = keeps_bind (stmt_keeps s back goes scope) (stmts_keep ss back goes)

    else_keeps : (e : Else) (back : Return) → Returns back → (scope : Scope) → Kept (else_means e site back scope)
    else_keeps no_else back goes scope = keeps_give _
    else_keeps (or_else ss) back goes scope = stmts_keep ss back goes scope

  pub function_keeps : (f : FunctionTree) (vs : List Value) → Kept (function_means site f vs)
  function_keeps f vs = keeps_bind (keeps_or_type_error (bound_to f.params vs)) (λ scope.
      record { by = λ back goes c. (stmts_keep f.body back goes scope).by (λ after d. back null d) (λ after d. goes null d) c })
