-- The limit and the bounds of a scan, on the stack.
use Rattle.std.proofs.Common.{◌≡◌, ℕ, Bool, true, List, [], ◌∷◌, length, zip, Option, Some, None, Result, Ok, Err, codes, refl, ap, ◌∙◌, slice_get}
use Rattle.cv_keys.specs.declared.interval.Interval.{Interval}
use Rattle.cv_values.specs.Value.{Value}
use Rattle.fn_code.specs.Operands.{popped}
use Rattle.fn_code.specs.States.{State, Next, fails}
use Rattle.fn_code.specs.Steps.{Terms, behind, goes, on_top, is_limit, limit_in, limit_on, under_limit, reads, scans, scans_up_to}
use Rattle.fn_tree.specs.Course.{scan_rows}
use Rattle.fn_tree.specs.Reading.{bounded}
use Rattle.fn_tree.specs.declared.syntax.CompareOp.{CompareOp}
use Rattle.fn_vm.specs.Scans.{AreBytes, Leave}

-- ---- limits

-- a limit stays on the stack
abbrev pub keeps : State → List Value → Result (Option ℕ) (List ℕ) → Next
keeps s stack (Ok limit) = goes s (behind s.frame stack)
keeps s stack (Err why) = fails s.counts why

limit_stays : (s : State) (v : Value) (stack : List Value) (r : Result (Option ℕ) (List ℕ)) → is_limit s v stack r ≡ keeps s (v ∷ stack) r
limit_stays s v stack (Ok limit) = refl
limit_stays s v stack (Err why) = refl

pub limit_kept : (s : State) (stack : List Value) → on_top s (λ v stack. is_limit s v stack (limit_in v)) stack ≡ keeps s stack (limit_on true stack)
limit_kept s [] = refl
limit_kept s (v ∷ stack) = limit_stays s v stack (limit_in v)

pub no_limit : (stack : List Value) → slice_get stack 0 ≡ None → limit_on true stack ≡ Err (codes "TypeError")
no_limit [] h = refl
no_limit (v ∷ stack) h = cc

pub limit_first : (stack : List Value) (v : Value) → slice_get stack 0 ≡ Some v → limit_on true stack ≡ limit_in v
limit_first [] v h = cc
limit_first (w ∷ stack) v h = cc

-- ---- bounds

pub left_some : (table index : ℕ) (ops : List CompareOp) (o : Option (List Value × List Value)) (i : Interval) → Leave table index ops o (Some i)
    → (vs : List Value × List Value) × (o ≡ Some vs) × AreBytes (bounded table index (zip ops vs.0)) i
left_some table index ops None i h = elim h [ ]
left_some table index ops (Some vs) i h = (vs, refl, h)

-- a scan with its limit and the values of its bounds is a read
pub scans_found : (t : Terms) (s : State) (table index : ℕ) (ops : List CompareOp) (desc limited : Bool) (stack : List Value) (limit : Option ℕ) (vs : List Value × List Value)
    → limit_on limited stack ≡ Ok limit → popped (length ops) [] (under_limit limited stack) ≡ Some vs
    → scans t s table index ops desc limited stack ≡ reads t s (scan_rows (bounded table index (zip ops vs.0)) desc limit)
scans_found t s table index ops desc limited stack limit vs e f =
    ap (scans_up_to t s table index ops desc (popped (length ops) [] (under_limit limited stack))) e
    ∙ ap (λ o. scans_up_to t s table index ops desc o (Ok limit)) f
