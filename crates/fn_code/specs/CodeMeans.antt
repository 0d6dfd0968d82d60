-- When a code means a module.
use Rattle.std.specs.Prelude.{◌≡◌, ℕ, zero, suc, ◌&&◌, ◌==◌, cond, if◌then◌else◌, List, [], ◌∷◌, length, Option, Some, None, option_and_then, option_map, codes}
use Rattle.std.specs.BTreeMap.{is_at}
use Rattle.std.specs.Map.{lookup}
use Rattle.std.specs.Str.{bytes_eq}
use Rattle.cv_values.specs.Order.{text_cmp}
use Rattle.cv_values.specs.Value.{Value}
use Rattle.cv_values.specs.declared.doc.Doc.{Doc}
use Rattle.fn_tree.specs.Actions.{nothing_used}
use Rattle.fn_tree.specs.Course.{Course, done, ask, put, failed}
use Rattle.fn_tree.specs.Functions.{Start, kind_of, limits_of, is_kind, course_of}
use Rattle.fn_tree.specs.SyntaxTree.{ModuleTree}
use Rattle.fn_tree.specs.declared.syntax.Kind.{Kind}
use Rattle.fn_code.specs.Coding.{code_of}
use Rattle.fn_code.specs.States.{State, Next, on, asks, puts, ends}
use Rattle.fn_code.specs.Steps.{Terms, step, answered}
use Rattle.fn_code.specs.declared.code.Code.{Code}
use Rattle.fn_code.specs.declared.code.Entry.{Entry}

-- after at most n instructions, up to the next stop
abbrev pub later : Terms → Code → ℕ → Next → Next
later t code zero x = x
later t code (suc n) (on s) = later t code n (step t code s)
later t code (suc n) (asks q s) = asks q s
later t code (suc n) (puts p s) = puts p s
later t code (suc n) (ends o) = ends o

-- the machine follows a course: its stops are the asks and puts in order, whatever the answers are, and it ends with the outcome
abbrev pub Follows : Terms → Code → Course → Next → Type 0
Follows t code (done o) x = (n : ℕ) × (later t code n x ≡ ends o)
Follows t code (ask q next) x = (n : ℕ) × (s : State) × (later t code n x ≡ asks q s) × ((ds : List Doc) → Follows t code (next ds) (answered t code s ds))
Follows t code (put p next) x = (n : ℕ) × (s : State) × (later t code n x ≡ puts p s) × Follows t code next (on s)

-- ---- the start

-- the values of parameters in their order, where each has one
abbrev pub values_of : List (List ℕ) → List (List ℕ × Value) → Option (List Value)
values_of [] args = Some []
values_of (x ∷ xs) args = option_and_then (λ v. option_map (λ (vs : List Value). v ∷ vs) (values_of xs args)) (lookup (is_at (text_cmp x)) args)

abbrev pub arguments_of : List (List ℕ) → List (List ℕ × Value) → Option (List Value)
arguments_of params args = if length params == length args then values_of params args else None

abbrev pub entry_of : Kind → List ℕ → List Entry → Option Entry
entry_of kind udf [] = None
entry_of kind udf (e ∷ es) = cond (is_kind kind e.kind && bytes_eq e.udf udf) (Some e) (entry_of kind udf es)

abbrev pub refused : List ℕ → Next
refused why = ends (record { reply = failed why; cost = 0 })

abbrev pub begins_at : (at : ℕ) → Option (List Value) → Next
begins_at at None = refused (codes "BadArguments")
begins_at at (Some vs) = on (record { frame = record { at = at; vars = vs; stack = []; loops = [] }; callers = []; counts = nothing_used })

abbrev pub begins : List (List ℕ × Value) → Option Entry → Next
begins args None = refused (codes "UnknownFunction")
begins args (Some e) = begins_at e.at (arguments_of e.params args)

-- what a code begins with
abbrev pub start : Code → Start → Next
start code s = begins s.args (entry_of (kind_of s.origin) s.udf code.entries)

abbrev pub terms_of : Start → Terms
terms_of s = record { limits = limits_of s.origin; origin = s.origin }

-- whatever a run begins with, the code follows its course
abbrev pub Means : Code → ModuleTree → Type 0
Means code m = (s : Start) → Follows (terms_of s) code (course_of m s) (start code s)

-- the code of each module means it
abbrev pub CodesMean : Type 0
CodesMean = (m : ModuleTree) → Means (code_of m) m
