-- The first fault of an expression.
use Rattle.std.specs.Prelude.{ℕ, suc, Bool, true, not, ◌&&◌, nat_eq, List, [], Option, None, Some}
use Rattle.cv_keys.specs.declared.schema.Index.{Index}
use Rattle.std.specs.Option.{option_and_then}
use Rattle.fn_check.specs.Bounds.{unbounded, next_bound}
use Rattle.fn_check.specs.Faults.{◌before◌, fault_if}
use Rattle.fn_check.specs.Known.{Known, Names, has_name, with_name, is_visible, helper_of, table_of, index_of}
use Rattle.fn_check.specs.declared.bounds.Bounded.{Bounded}
use Rattle.fn_check.specs.declared.fault.CheckFault.{CheckFault}
use Rattle.fn_check.specs.declared.fault.CheckKind.TheVariants.{DuplicateField, UnknownName, UnknownHelper, WrongArity, UnknownTable, UnknownIndex, BadBound, WriteInQuery, NowInQuery}
use Rattle.fn_check.specs.declared.scope.Helper.{Helper}
use Rattle.fn_tree.specs.SyntaxTree.{Expr, expr, Form, integer, string, truth, nothing, variable, call, builtin, items, entries, group, scan, count, get, now, insert, delete, patch, replace, field, item, unary, binary, Exprs, no_exprs, then_expr, Entries, no_entries, entry, Bounds, no_bounds, bound, Limit, all_rows, up_to}
use Rattle.fn_tree.specs.declared.syntax.Builtin.{Builtin}
use Rattle.fn_tree.specs.declared.syntax.Builtin.TheVariants.{Len, Has, Push, Set, Without, Slice, Range, Show, Keys}
use Rattle.fn_tree.specs.declared.syntax.Named.{Named}

-- the first fault of a part, or none
abbrev pub First : Type 0
First = Option CheckFault

-- how many arguments an operation has
abbrev pub arity_of : Builtin → ℕ
arity_of Len = 1
arity_of Has = 2
arity_of Push = 2
arity_of Set = 3
arity_of Without = 2
arity_of Slice = 3
arity_of Range = 2
arity_of Show = 1
arity_of Keys = 1

-- how many expressions stand in a list
abbrev pub count_of : Exprs → ℕ
count_of no_exprs = 0
count_of (then_expr e es) = suc (count_of es)

-- a call wants so many arguments and is given so many
abbrev pub arity_fault : ℕ → ℕ → ℕ → First
arity_fault wanted given at = fault_if (not (nat_eq given wanted)) at WrongArity

-- a variable has to be visible
abbrev pub variable_fault : Known → List ℕ → ℕ → First
variable_fault known x at = fault_if (not (is_visible known x)) at UnknownName

-- a write, or a call of a helper that writes
abbrev pub write_fault : Known → Bool → ℕ → First
write_fault known writes at = fault_if (known.query && writes) at WriteInQuery

-- `now`, or a call of a helper that uses it
abbrev pub now_fault : Known → Bool → ℕ → First
now_fault known uses_now at = fault_if (known.query && uses_now) at NowInQuery

-- a call with so many arguments
abbrev pub call_fault : Known → Option Helper → ℕ → ℕ → First
call_fault known None given at = Some (record { at = at; kind = UnknownHelper })
call_fault known (Some h) given at = arity_fault h.params given at before write_fault known h.writes at before now_fault known h.uses_now at

-- a table has to be declared
abbrev pub table_fault : Known → Named → First
table_fault known t = elim (table_of known t.text) [ None ↦ Some (record { at = t.at; kind = UnknownTable }) | Some table ↦ None ]

-- the index that a scan names, where it is there
abbrev pub scan_index : Known → Named → Named → Option Index
scan_index known t i = option_and_then (λ table. index_of table i.text) (table_of known t.text)

-- the table has to have the index
abbrev pub index_fault : Known → Named → Named → First
index_fault known t i = elim (scan_index known t i) [ None ↦ Some (record { at = i.at; kind = UnknownIndex }) | Some index ↦ None ]

-- the fields of that index in order
abbrev pub scan_fields : Known → Named → Named → List (List ℕ)
scan_fields known t i = elim (scan_index known t i) [ None ↦ [] | Some index ↦ index.fields ]

abbrev mutual
  -- an expression, with its parts as they stand in the text
  pub expr_fault : Known → Expr → First
  expr_fault known (expr at form) = form_fault known at form

  -- a form with its first token at a place
  pub form_fault : Known → ℕ → Form → First
  form_fault known at (integer n) = None
  form_fault known at (string s) = None
  form_fault known at (truth b) = None
  form_fault known at nothing = None
  form_fault known at (variable x) = variable_fault known x at
  form_fault known at (call f es) = call_fault known (helper_of known f) (count_of es) at before exprs_fault known es
  form_fault known at (builtin b es) = arity_fault (arity_of b) (count_of es) at before exprs_fault known es
  form_fault known at (items es) = exprs_fault known es
  form_fault known at (entries es) = entries_fault known [] es
  form_fault known at (group e) = expr_fault known e
  form_fault known at (scan t i bs desc l) = table_fault known t before index_fault known t i before bounds_fault known (scan_fields known t i) unbounded bs before limit_fault known l
  form_fault known at (count t) = table_fault known t
  form_fault known at (get e) = expr_fault known e
  form_fault known at now = now_fault known true at
  form_fault known at (insert t e) = write_fault known true at before table_fault known t before expr_fault known e
  form_fault known at (delete e) = write_fault known true at before expr_fault known e
  form_fault known at (patch e o) = write_fault known true at before expr_fault known e before expr_fault known o
  form_fault known at (replace e o) = write_fault known true at before expr_fault known e before expr_fault known o
  form_fault known at (field e n) = expr_fault known e
  form_fault known at (item a i) = expr_fault known a before expr_fault known i
  form_fault known at (unary op e) = expr_fault known e
  form_fault known at (binary op a b) = expr_fault known a before expr_fault known b

  -- expressions one after another
  pub exprs_fault : Known → Exprs → First
  exprs_fault known no_exprs = None
  exprs_fault known (then_expr e es) = expr_fault known e before exprs_fault known es

  -- the entries of an object, after those of some names
  pub entries_fault : Known → Names → Entries → First
  entries_fault known seen no_entries = None
  entries_fault known seen (entry n e es) = (fault_if (has_name seen n.text) n.at DuplicateField before expr_fault known e) before entries_fault known (with_name seen n.text) es

  -- bounds on an index of these fields, after those so far
  pub bounds_fault : Known → List (List ℕ) → Bounded → Bounds → First
  bounds_fault known fields so_far no_bounds = None
  bounds_fault known fields so_far (bound f op e bs) =
      elim (next_bound fields so_far f.text op) [
        | None ↦ Some (record { at = f.at; kind = BadBound })
        | Some next ↦ expr_fault known e before bounds_fault known fields next bs
      ]

  -- what limits a scan
  pub limit_fault : Known → Limit → First
  limit_fault known all_rows = None
  limit_fault known (up_to e) = expr_fault known e
