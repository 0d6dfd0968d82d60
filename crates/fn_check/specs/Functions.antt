-- The first fault of a module: its tables, and then its functions.
use Rattle.std.specs.Prelude.{ℕ, ◌+◌, Bool, true, false, nat_le, List, [], ◌∷◌, None, length}
use Rattle.std.specs.Option.{is_some}
use Rattle.std.specs.BTreeMap.{insert_entry}
use Rattle.cv_keys.specs.declared.schema.Schema.{Schema}
use Rattle.cv_values.specs.Order.{text_cmp}
use Rattle.fn_check.specs.Effects.{stmts_do}
use Rattle.fn_check.specs.Expressions.{First}
use Rattle.fn_check.specs.Faults.{◌before◌, fault_if}
use Rattle.fn_check.specs.Known.{Known, Names, has_name, with_name, with_visible, helper_of}
use Rattle.fn_tree.specs.Schemas.{schema_of}
use Rattle.fn_check.specs.Statements.{declare_fault, stmts_fault}
use Rattle.fn_check.specs.Tables.{tables_fault}
use Rattle.fn_check.specs.declared.effects.Effect.TheVariants.{Write, Now}
use Rattle.fn_check.specs.declared.fault.CheckKind.TheVariants.{DuplicateFunction, TooManyFunctions}
use Rattle.fn_check.specs.declared.scope.Helper.{Helper}
use Rattle.fn_tree.specs.SyntaxTree.{FunctionTree, ModuleTree}
use Rattle.fn_tree.specs.declared.syntax.Kind.{Kind}
use Rattle.fn_tree.specs.declared.syntax.Kind.TheVariants.{Query, Mutation, Helper as Helping}
use Rattle.fn_tree.specs.declared.syntax.Named.{Named}

-- where a query or something else begins, with no name visible
abbrev pub begun : Known → Bool → Known
begun known query = record known { query = query; here = []; outer = [] }

-- whether a function of the kind is a query
abbrev pub is_query : Kind → Bool
is_query Query = true
is_query Mutation = false
is_query Helping = false

-- parameters one after another
abbrev pub params_fault : Known → List Named → First
params_fault known [] = None
params_fault known (p ∷ ps) = declare_fault known p before params_fault (with_visible known p.text) ps

-- the names with those of parameters
abbrev pub with_names : Names → List Named → Names
with_names names [] = names
with_names names (p ∷ ps) = with_names (with_name names p.text) ps

-- where the parameters are visible
abbrev pub with_params : Known → List Named → Known
with_params known ps = record known { here = with_names known.here ps }

-- parameters and body, where so much is known
abbrev pub body_fault : Known → FunctionTree → First
body_fault known f = params_fault known f.params before stmts_fault (with_params known f.params) f.body

-- a helper when it is complete
abbrev pub helper_made : Known → FunctionTree → Helper
helper_made known f = record { params = length f.params; writes = stmts_do Write known f.body; uses_now = stmts_do Now known f.body }

-- the helpers when a function of a kind is complete
abbrev pub helpers_with : Kind → List (List ℕ × Helper) → List ℕ → Helper → List (List ℕ × Helper)
helpers_with Query helpers name h = helpers
helpers_with Mutation helpers name h = helpers
helpers_with Helping helpers name h = insert_entry text_cmp helpers name h

-- what is known when a function of a kind is complete
abbrev pub completed : Kind → Known → List ℕ → Helper → Known
completed kind known name h = record known { helpers = helpers_with kind known.helpers name h }

-- what is known behind a function
abbrev pub known_behind : Known → FunctionTree → Known
known_behind known f = completed f.kind (begun known false) f.udf (helper_made known f)

-- the names of queries and mutations behind a function, of a kind
abbrev pub names_behind : Kind → Names → List ℕ → Names
names_behind Query names udf = with_name names udf
names_behind Mutation names udf = with_name names udf
names_behind Helping names udf = names

-- whether a function of the kind and the name is declared
abbrev pub is_taken : Kind → Known → Names → List ℕ → Bool
is_taken Query known names udf = has_name names udf
is_taken Mutation known names udf = has_name names udf
is_taken Helping known names udf = is_some (helper_of known udf)

-- the name of a function, after so many functions
abbrev pub name_fault : Known → Names → ℕ → FunctionTree → First
name_fault known names count f = fault_if (is_taken f.kind known names f.udf) f.at DuplicateFunction before fault_if (nat_le 1024 count) f.at TooManyFunctions

-- a function, after so many
abbrev pub function_fault : Known → Names → ℕ → FunctionTree → First
function_fault known names count f = name_fault known names count f before body_fault (begun known (is_query f.kind)) f

-- the functions, after so many of which some are queries and mutations of these names
abbrev pub functions_fault : Known → Names → ℕ → List FunctionTree → First
functions_fault known names count [] = None
functions_fault known names count (f ∷ fs) = function_fault known names count f before functions_fault (known_behind known f) (names_behind f.kind names f.udf) (count + 1) fs

-- what the first function can name
abbrev pub known_first : Schema → Known
known_first schema = record { schema = schema; helpers = []; query = false; here = []; outer = [] }

-- the first fault of a module in the order of its text
abbrev pub first_fault : ModuleTree → First
first_fault m = tables_fault [] 0 m.tables before functions_fault (known_first (schema_of m.tables)) [] 0 m.functions
