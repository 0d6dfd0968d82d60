-- What a form does with the values of its parts.
use Rattle.std.specs.Prelude.{◌≡◌, ◌≤◌, ◌+◌, ℕ, Bool, true, false, List, [], map, Option, None, codes}
use Rattle.std.specs.Option.{option_map}
use Rattle.cv_values.specs.Value.{Value, null, int, boolean, string}
use Rattle.fn_ops.specs.Operations as ops
use Rattle.fn_tree.specs.Actions.{Action, ◌>>=◌, give, type_error, or_type_error, Scope, Site, given}
use Rattle.fn_tree.specs.Meaning.{form_means, expr_means, exprs_mean, entries_mean, bounds_mean, limit_means, helper_value}
use Rattle.fn_tree.specs.Names.{at_name}
use Rattle.fn_tree.specs.Operators.{unary_value, either, builtin_value, eager_value}
use Rattle.fn_tree.specs.Reading.{get_value, scan_value}
use Rattle.fn_tree.specs.SyntaxTree.{Expr, Form, integer, string as text, truth, nothing, variable, call, builtin, items, entries, group, scan, count, get, now, insert, delete, patch, replace, field, item, unary, binary, Exprs, Entries, Bounds, Limit}
use Rattle.fn_tree.specs.SyntaxViews.{expr_view, bound_view, exprs_of, entries_of, bounds_of, limit_of}
use Rattle.fn_tree.specs.Writing.{origin_of, insert_value, with_members, change_value, delete_value}
use Rattle.fn_tree.specs.declared.syntax.CompareOp.{CompareOp}
use Rattle.fn_plain.specs.Sizes.{form_size, expr_size, exprs_size, entries_size, bounds_size, limit_size}
use Rattle.fn_plain.specs.declared.form.Parts.{Parts}
use Rattle.fn_plain.specs.declared.form.Parts.TheVariants.{Leaf, One, Two, Either, Many, Call, Members, Bounded}

abbrev pub leaf_means : Form → Site → Scope → Action Value
leaf_means (integer z) site scope = give (int z)
leaf_means (text s) site scope = give (string s)
leaf_means (truth b) site scope = give (boolean b)
leaf_means nothing site scope = give null
leaf_means (variable x) site scope = or_type_error (at_name x scope)
leaf_means (count t) site scope = scan_value site t.text (codes "by_creation_time") [] false None >>= (λ v. given (ops.length_of v))
leaf_means now site scope = origin_of site >>= (λ o. give (int o.now))
leaf_means f site scope = type_error

abbrev pub after_one : Form → Site → Value → Action Value
after_one (group e) site v = give v
after_one (get e) site v = get_value site v
after_one (insert t e) site v = insert_value site t.text v
after_one (delete e) site v = delete_value site v
after_one (field e n) site v = given (ops.field v n.text)
after_one (unary op e) site v = given (unary_value op v)
after_one f site v = type_error

abbrev pub after_two : Form → Site → Value → Value → Action Value
after_two (patch e o) site v w = change_value site with_members v w
after_two (replace e o) site v w = change_value site (λ new old. new) v w
after_two (item a i) site v w = given (ops.item v w)
after_two (binary op a b) site v w = given (eager_value op v w)
after_two f site v w = type_error

abbrev pub after_many : Form → List Value → Action Value
after_many (builtin b es) vs = given (builtin_value b vs)
after_many (items es) vs = given (ops.array_of vs)
after_many f vs = type_error

abbrev pub after_members : List (List ℕ × Value) → Action Value
after_members ms = given (ops.object_of (with_members ms []))

abbrev pub after_bounds : Form → Site → List (CompareOp × Value) → Option ℕ → Action Value
after_bounds (scan t i bs desc l) site bounds most = scan_value site t.text i.text bounds desc most
after_bounds f site bounds most = type_error

-- ---- these parts are a form's, and smaller than it

pub record IsLeaf (f : Form) : Type 0 where
  pub means : (site : Site) (scope : Scope) → form_means f site scope ≡ leaf_means f site scope

pub record HasOne (f : Form) (e : Expr) : Type 0 where
  pub means : (site : Site) (scope : Scope) → form_means f site scope ≡ (expr_means e site scope >>= (λ v. after_one f site v))
  pub falls : expr_size e ≤ form_size f

pub record HasTwo (f : Form) (a b : Expr) : Type 0 where
  pub means : (site : Site) (scope : Scope) → form_means f site scope ≡ (expr_means a site scope >>= (λ v. expr_means b site scope >>= (λ w. after_two f site v w)))
  pub falls : expr_size a + expr_size b ≤ form_size f

pub record HasEither (f : Form) (decides : Bool) (a b : Expr) : Type 0 where
  pub means : (site : Site) (scope : Scope) → form_means f site scope ≡ either decides (expr_means a site scope) (expr_means b site scope)
  pub falls : expr_size a + expr_size b + 1 ≤ form_size f

pub record HasMany (f : Form) (es : Exprs) : Type 0 where
  pub means : (site : Site) (scope : Scope) → form_means f site scope ≡ (exprs_mean es site scope >>= (λ vs. after_many f vs))
  pub falls : exprs_size es ≤ form_size f

pub record HasCall (f : Form) (name : List ℕ) (es : Exprs) : Type 0 where
  pub means : (site : Site) (scope : Scope) → form_means f site scope ≡ (exprs_mean es site scope >>= (λ vs. helper_value site name vs))
  pub falls : exprs_size es ≤ form_size f

pub record HasMembers (f : Form) (es : Entries) : Type 0 where
  pub means : (site : Site) (scope : Scope) → form_means f site scope ≡ (entries_mean es site scope >>= (λ ms. after_members ms))
  pub falls : entries_size es ≤ form_size f

pub record HasBounds (f : Form) (bs : Bounds) (l : Limit) : Type 0 where
  pub means : (site : Site) (scope : Scope) → form_means f site scope ≡ (bounds_mean bs site scope >>= (λ bounds. limit_means l site scope >>= (λ most. after_bounds f site bounds most)))
  pub falls : bounds_size bs + limit_size l ≤ form_size f

abbrev pub IsMadeOf : Form → Parts → Type 0
IsMadeOf f Leaf = IsLeaf f
IsMadeOf f (One e) = HasOne f (expr_view e.now)
IsMadeOf f (Two a b) = HasTwo f (expr_view a.now) (expr_view b.now)
IsMadeOf f (Either decides a b) = HasEither f decides (expr_view a.now) (expr_view b.now)
IsMadeOf f (Many es) = HasMany f (exprs_of (map expr_view es.now))
IsMadeOf f (Call name es) = HasCall f name.now (exprs_of (map expr_view es.now))
IsMadeOf f (Members es) = HasMembers f (entries_of (map (λ p. (p.0, expr_view p.1)) es.now))
IsMadeOf f (Bounded bs l) = HasBounds f (bounds_of (map bound_view bs.now)) (limit_of (option_map expr_view l.now))
