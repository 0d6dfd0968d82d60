-- What the expressions that were built say of their parses.
use Rattle.std.proofs.Common.{ℕ, List, ◌≡◌, sym, ap, ◌∙◌, Bool, Vec, Option, map}
use Rattle.std.specs.Option.{option_map}
use Rattle.std.specs.declared.alloc.Global.{Global}
use Rattle.fn_tree.specs.Grammar.{Parse}
use Rattle.fn_tree.specs.ParseTrees.{token_of, said, lookup_as, change_as, builtin_of, at_of, compare_of}
use Rattle.fn_tree.specs.SyntaxTree as plain
use Rattle.fn_tree.specs.SyntaxViews.{expr_view, form_view, bound_view, exprs_of, bounds_of, limit_of}
use Rattle.fn_tree.specs.declared.lexeme.Lexeme.{Lexeme}
use Rattle.fn_tree.specs.declared.syntax.BoundExpr.{BoundExpr}
use Rattle.fn_tree.specs.declared.syntax.Builtin.{Builtin}
use Rattle.fn_tree.specs.declared.syntax.CompareOp.{CompareOp}
use Rattle.fn_tree.specs.declared.syntax.Expr.{Expr}
use Rattle.fn_tree.specs.declared.syntax.ExprForm.TheVariants as form
use Rattle.fn_tree.specs.declared.syntax.Named.{Named}
use Rattle.fn_tree.proofs.FormViews.{form-Builtin, form-Insert, form-Scan, form-Var, form-Call, form-Field, form-Item}

-- a form at the place of a token
pub at_token : {d : plain.Expr} {c : Lexeme} (p : Parse) {f g : plain.Form} → d ≡ plain.expr c.at f → c ≡ token_of p → f ≡ g → d ≡ plain.expr (token_of p).at g
at_token {c = c} p {g = g} h e k = h ∙ ap (λ f. plain.expr c.at f) k ∙ ap (λ (t : Lexeme). plain.expr t.at g) e

-- a form at the place of an expression
pub at_expr : {d : plain.Expr} (e : Expr) {f g : plain.Form} → d ≡ plain.expr e.at f → at_of (expr_view e) ≡ e.at → f ≡ g → d ≡ plain.expr (at_of (expr_view e)) g
at_expr v {g = g} h e k = h ∙ ap (λ f. plain.expr v.at f) k ∙ ap (λ a. plain.expr a g) (sym e)

pub variable_said : (s : List ℕ) {name : List ℕ} {c : Lexeme} (p : Parse) → name ≡ said s c → c ≡ token_of p → form_view (form.Var name) ≡ plain.variable (said s (token_of p))
variable_said s {name = name} p h e = form-Var name ∙ ap plain.variable (h ∙ ap (λ (t : Lexeme). said s t) e)

pub call_said : (s : List ℕ) {name : List ℕ} {c : Lexeme} (p : Parse) (es : Vec Expr Global) {more : plain.Exprs} → name ≡ said s c → c ≡ token_of p → exprs_of (map expr_view es.items) ≡ more → form_view (form.Call name es) ≡ plain.call (said s (token_of p)) more
call_said s {name = name} p es h e k = form-Call name es ∙ ap (λ n. plain.call n (exprs_of (map expr_view es.items))) (h ∙ ap (λ (t : Lexeme). said s t) e) ∙ ap (λ v. plain.call (said s (token_of p)) v) k

pub builtin_said : {b : Builtin} {c : Lexeme} (p : Parse) (es : Vec Expr Global) {more : plain.Exprs} → b ≡ builtin_of c.terminal → c ≡ token_of p → exprs_of (map expr_view es.items) ≡ more → form_view (form.Builtin b es) ≡ plain.builtin (builtin_of (token_of p).terminal) more
builtin_said {b = b} p es h e k = form-Builtin b es ∙ ap (λ n. plain.builtin n (exprs_of (map expr_view es.items))) (h ∙ ap (λ (t : Lexeme). builtin_of t.terminal) e) ∙ ap (λ v. plain.builtin (builtin_of (token_of p).terminal) v) k

pub lookup_said : {f : plain.Form} {e d : plain.Expr} {c : Lexeme} (p : Parse) → f ≡ lookup_as c.terminal e → c ≡ token_of p → e ≡ d → f ≡ lookup_as (token_of p).terminal d
lookup_said {d = d} {c = c} p h e k = h ∙ ap (λ x. lookup_as c.terminal x) k ∙ ap (λ (t : Lexeme). lookup_as t.terminal d) e

pub change_said : {f : plain.Form} {e d x y : plain.Expr} {c : Lexeme} (p : Parse) → f ≡ change_as c.terminal e x → c ≡ token_of p → e ≡ d → x ≡ y → f ≡ change_as (token_of p).terminal d y
change_said {d = d} {x = x} {y = y} {c = c} p h e k l = h ∙ ap (λ v. change_as c.terminal v x) k ∙ ap (λ v. change_as c.terminal d v) l ∙ ap (λ (t : Lexeme). change_as t.terminal d y) e

pub insert_said : {t u : Named} (e : Expr) {d : plain.Expr} → t ≡ u → expr_view e ≡ d → form_view (form.Insert t e) ≡ plain.insert u d
insert_said {t = t} {u = u} e h k = form-Insert t e ∙ ap (λ v. plain.insert v (expr_view e)) h ∙ ap (λ v. plain.insert u v) k

pub scan_said : {t u i j : Named} (bs : Vec BoundExpr Global) {cs : plain.Bounds} {a b : Bool} (l : Option Expr) {m : plain.Limit} → t ≡ u → i ≡ j → bounds_of (map bound_view bs.items) ≡ cs → a ≡ b → limit_of (option_map expr_view l) ≡ m → form_view (form.Scan t i bs a l) ≡ plain.scan u j cs b m
scan_said {t = t} {u = u} {i = i} {j = j} bs {cs = cs} {a = a} {b = b} l h k n o q =
    form-Scan t i bs a l ∙ ap (λ v. plain.scan v i (bounds_of (map bound_view bs.items)) a (limit_of (option_map expr_view l))) h ∙ ap (λ v. plain.scan u v (bounds_of (map bound_view bs.items)) a (limit_of (option_map expr_view l))) k ∙ ap (λ v. plain.scan u j v a (limit_of (option_map expr_view l))) n ∙ ap (λ v. plain.scan u j cs v (limit_of (option_map expr_view l))) o ∙ ap (λ v. plain.scan u j cs b v) q

pub field_said : (e : Expr) {n m : Named} → n ≡ m → form_view (form.Field e n) ≡ plain.field (expr_view e) m
field_said e {n = n} h = form-Field e n ∙ ap (λ v. plain.field (expr_view e) v) h

pub item_said : (e i : Expr) {d : plain.Expr} → expr_view i ≡ d → form_view (form.Item e i) ≡ plain.item (expr_view e) d
item_said e i h = form-Item e i ∙ ap (λ v. plain.item (expr_view e) v) h

pub bound_said : {b : Named × CompareOp × plain.Expr} {n m : Named} {o : CompareOp} {e d : plain.Expr} {c : Lexeme} (p : Parse) → b ≡ (n, o, e) → n ≡ m → o ≡ compare_of c.terminal → c ≡ token_of p → e ≡ d → b ≡ (m, compare_of (token_of p).terminal, d)
bound_said {m = m} {o = o} {e = e} {d = d} {c = c} p h k l q r = h ∙ ap (λ v. (v, o, e)) k ∙ ap (λ v. (m, v, e)) (l ∙ ap (λ (t : Lexeme). compare_of t.terminal) q) ∙ ap (λ v. (m, compare_of (token_of p).terminal, v)) r
