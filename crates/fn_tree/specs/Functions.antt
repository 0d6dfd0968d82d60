-- The functions of a module, and the start of a run.
use Rattle.std.specs.Prelude.{ℕ, Bool, true, false, ◌&&◌, ◌==◌, nat_le, if◌then◌else◌, cond, List, [], ◌∷◌, ◌++◌, length, Option, Some, None, option_and_then, option_map, codes}
use Rattle.std.specs.BTreeMap.{is_at}
use Rattle.std.specs.Map.{lookup}
use Rattle.std.specs.Str.{bytes_eq}
use Rattle.cv_values.specs.Order.{text_cmp}
use Rattle.cv_values.specs.Sizes.{size_of}
use Rattle.cv_values.specs.Value.{Value}
use Rattle.fn_tree.specs.Actions.{Limits, nothing_used, ◌>>=◌, or_type_error, Meaning, Site}
use Rattle.fn_tree.specs.Course.{gives, failed, Course, done}
use Rattle.fn_tree.specs.Meaning.{Return, body_means}
use Rattle.fn_tree.specs.Names.{bound_to}
use Rattle.fn_tree.specs.Schemas.{schema_of}
use Rattle.fn_tree.specs.SyntaxTree.{FunctionTree, ModuleTree}
use Rattle.fn_tree.specs.declared.syntax.Kind.{Kind}
use Rattle.fn_tree.specs.declared.syntax.Kind.TheVariants.{Query, Mutation, Helper}
use Rattle.fn_tree.specs.declared.syntax.Named.{Named}
use Rattle.fn_tree.specs.declared.start.Origin.{Origin}

abbrev pub function_means : Site → FunctionTree → Meaning
function_means site f vs = or_type_error (bound_to f.params vs) >>= body_means f.body site

abbrev pub is_kind : Kind → Kind → Bool
is_kind Query Query = true
is_kind Mutation Mutation = true
is_kind Helper Helper = true
is_kind a b = false

-- what the functions after this one see: a helper is seen by those after it alone
abbrev pub seen_after : Site → FunctionTree → Site
seen_after site f = cond (is_kind f.kind Helper) (record site { helpers = site.helpers ++ (f.udf, function_means site f) ∷ [] }) site

-- the query or mutation of this text, with its parameters
abbrev pub found_in : Kind → List ℕ → Site → List FunctionTree → Option (List Named × Meaning)
found_in kind udf site [] = None
found_in kind udf site (f ∷ fs) =
    cond (is_kind kind f.kind && bytes_eq f.udf udf) (Some (f.params, function_means site f)) (found_in kind udf (seen_after site f) fs)

-- the values of the parameters in their order, where each has one
abbrev pub values_for : List Named → List (List ℕ × Value) → Option (List Value)
values_for [] args = Some []
values_for (x ∷ xs) args =
    option_and_then (λ v. option_map (λ (vs : List Value). v ∷ vs) (values_for xs args)) (lookup (is_at (text_cmp x.text)) args)

-- the same, where the names of the arguments are exactly the parameters'
abbrev pub arguments_for : List Named → List (List ℕ × Value) → Option (List Value)
arguments_for params args = if length params == length args then values_for params args else None

-- the value is the reply, unless it is too large
abbrev pub replied : Site → Return
replied site v c = elim (nat_le (size_of v) site.limits.reply) [
  | true ↦ done (record { reply = gives v; cost = c.cost })
  | false ↦ done (record { reply = failed (codes "TooLarge"); cost = c.cost })
]

-- ---- the start

-- what a run begins with: a mutation's has an origin, a query's has none
pub record Start : Type 0 where
  pub udf : List ℕ
  pub args : List (List ℕ × Value)
  pub origin : Option Origin

abbrev pub kind_of : Option Origin → Kind
kind_of None = Query
kind_of (Some o) = Mutation

abbrev pub mutation_limits : Limits
mutation_limits = record { cost = 100000; rows = 16384; size = 8388608; ranges = 4096; writes = 8192; written = 8388608; reply = 1048576 }

abbrev pub query_limits : Limits
query_limits = record mutation_limits { ranges = 1024 }

abbrev pub limits_of : Option Origin → Limits
limits_of None = query_limits
limits_of (Some o) = mutation_limits

abbrev pub failed_at_start : List ℕ → Course
failed_at_start why = done (record { reply = failed why; cost = 0 })

abbrev pub began : Site → Meaning → Option (List Value) → Course
began site f None = failed_at_start (codes "BadArguments")
began site f (Some vs) = f vs nothing_used (replied site)

abbrev pub started : Site → List (List ℕ × Value) → Option (List Named × Meaning) → Course
started site args None = failed_at_start (codes "UnknownFunction")
started site args (Some f) = began site f.1 (arguments_for f.0 args)

-- the course of a call, within some limits
abbrev pub course_within : Limits → ModuleTree → Start → Course
course_within limits m s =
    let site : Site = record { schema = schema_of m.tables; limits = limits; origin = s.origin; helpers = [] } in
    started site s.args (found_in (kind_of s.origin) s.udf site m.functions)

abbrev pub course_of : ModuleTree → Start → Course
course_of m s = course_within (limits_of s.origin) m s
