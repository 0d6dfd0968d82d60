-- Which bounds a scan may have.
use Rattle.std.specs.Prelude.{ℕ, ◌+◌, Bool, true, false, not, ◌&&◌, if◌then◌else◌, List, Option, None, Some}
use Rattle.std.specs.List.{slice_get}
use Rattle.fn_check.specs.Known.{same_text}
use Rattle.fn_check.specs.declared.bounds.Bounded.{Bounded}
use Rattle.fn_tree.specs.declared.syntax.CompareOp.{CompareOp}
use Rattle.fn_tree.specs.declared.syntax.CompareOp.TheVariants.{Equal, NotEqual, Less, LessEqual, Greater, GreaterEqual}

-- before the first bound
abbrev pub unbounded : Bounded
unbounded = record { equal = 0; lower = false; upper = false }

-- whether the field stands behind the equalities so far
abbrev pub is_next : List (List ℕ) → ℕ → List ℕ → Bool
is_next fields equal name = elim (slice_get fields equal) [ None ↦ false | Some field ↦ same_text field name ]

-- whether the comparison may stand behind what bounds the field already
abbrev pub fits : Bounded → CompareOp → Bool
fits so_far Equal = not so_far.lower && not so_far.upper
fits so_far NotEqual = false
fits so_far Less = not so_far.upper
fits so_far LessEqual = not so_far.upper
fits so_far Greater = not so_far.lower
fits so_far GreaterEqual = not so_far.lower

-- equalities on the first fields, then on the next field one bound below and one above at most
abbrev pub allows : List (List ℕ) → Bounded → List ℕ → CompareOp → Bool
allows fields so_far name op = fits so_far op && is_next fields so_far.equal name

-- what bounds the fields with one more bound
abbrev pub bounded_by : Bounded → CompareOp → Bounded
bounded_by so_far Equal = record so_far { equal = so_far.equal + 1 }
bounded_by so_far NotEqual = so_far
bounded_by so_far Less = record so_far { upper = true }
bounded_by so_far LessEqual = record so_far { upper = true }
bounded_by so_far Greater = record so_far { lower = true }
bounded_by so_far GreaterEqual = record so_far { lower = true }

-- what bounds the fields with one more bound, where it is allowed
abbrev pub next_bound : List (List ℕ) → Bounded → List ℕ → CompareOp → Option Bounded
next_bound fields so_far name op = if allows fields so_far name op then Some (bounded_by so_far op) else None
