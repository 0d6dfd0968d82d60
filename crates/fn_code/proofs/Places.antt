-- Instructions at their places in a code, and steps before a state that follows a course.
use Rattle.std.proofs.Common.{◌≡◌, ℕ, suc, ◌+◌, List, [], ◌∷◌, ◌++◌, map, length, Option, Some, refl, sym, ◌∙◌, subst, arith, length-append, append_assoc}
use Rattle.std.specs.Prelude.{slice_get, Ok, Err, codes}
use Rattle.cv_values.specs.Value.{Value}
use Rattle.fn_ops.specs.Operations as ops
use Rattle.fn_tree.specs.Actions.{Counts, Meaning, Scope, Site, given}
use Rattle.fn_tree.specs.Course.{Course, done, ask, put, failed}
use Rattle.fn_code.specs.CodeMeans.{Follows}
use Rattle.fn_code.specs.States.{Frame, State, on, fails}
use Rattle.fn_code.specs.Steps.{Terms, step, step_at, step_by, pushes, pushes_given}
use Rattle.fn_code.specs.declared.code.Code.{Code}
use Rattle.fn_code.specs.declared.code.Instr.{Instr}
use Rattle.fn_code.specs.declared.code.Instr.TheVariants as instr

-- these items stand in the list, from a place up to another
abbrev pub Stands : {A : Type 0} → List A → (place : ℕ) → List A → (behind : ℕ) → Type 0
Stands all place [] behind = place ≡ behind
Stands all place (x ∷ xs) behind = (slice_get all place ≡ Some x) × Stands all (place + 1) xs behind

pub stands_split : {A : Type 0} (all : List A) (place : ℕ) (xs ys : List A) (behind : ℕ) → Stands all place (xs ++ ys) behind →
    (between : ℕ) × Stands all place xs between × Stands all between ys behind
stands_split all place [] ys behind h = (place, refl, h)
stands_split all place (x ∷ xs) ys behind h = let rest = stands_split all (place + 1) xs ys behind h.1 in (rest.0, (h.0, rest.1), rest.2)

pub stands_length : {A : Type 0} (all : List A) (place : ℕ) (xs : List A) (behind : ℕ) → Stands all place xs behind → behind ≡ place + length xs
stands_length all place [] behind h = sym h ∙ (omega arith)
stands_length all place (x ∷ xs) behind h = stands_length all (place + 1) xs behind h.1 ∙ (omega arith)

-- all of a list stands in it
pub stands_behind : {A : Type 0} (front xs : List A) → Stands (front ++ xs) (length front) xs (length front + length xs)
stands_behind front [] = omega arith
stands_behind {A} front (x ∷ xs) =
    let n : length (front ++ x ∷ []) ≡ length front + 1 = omega (arith, length-append front (x ∷ [])) in
    let m : length (front ++ x ∷ []) + length xs ≡ length front + length (x ∷ xs) = omega (arith, length-append front (x ∷ [])) in
    let rest = subst (λ l. Stands l (length (front ++ x ∷ [])) xs (length (front ++ x ∷ []) + length xs)) (append_assoc front (x ∷ []) xs) (stands_behind (front ++ x ∷ []) xs) in
    (here front, subst (λ k. Stands (front ++ x ∷ xs) k xs (length front + length (x ∷ xs))) n (subst (λ k. Stands (front ++ x ∷ xs) (length (front ++ x ∷ [])) xs k) m rest))
  where
    here : (front : List A) → slice_get (front ++ x ∷ xs) (length front) ≡ Some x
    here [] = refl
    here (y ∷ front) = here front

pub stands_whole : {A : Type 0} (xs : List A) → Stands xs 0 xs (0 + length xs)
stands_whole xs = stands_behind [] xs

-- ---- states

-- what a machine sees of variables
abbrev pub names_in : Scope → List (List ℕ)
names_in scope = map (λ (p : List ℕ × Value). p.0) scope

abbrev pub values_in : Scope → List Value
values_in scope = map (λ (p : List ℕ × Value). p.1) scope

abbrev pub state : (place : ℕ) → (vars stack : List Value) → (loops : List (List Value)) → (callers : List Frame) → Counts → State
state place vars stack loops callers c = record { frame = record { at = place; vars = vars; stack = stack; loops = loops }; callers = callers; counts = c }

-- what a function sees besides its variables
abbrev pub site_of : Terms → Code → List (List ℕ × Meaning) → Site
site_of t code helpers = record { schema = code.schema; limits = t.limits; origin = t.origin; helpers = helpers }

module _ (t : Terms) (code : Code) where
  -- a step before it follows too
  follows_on : (course : Course) (s : State) → Follows t code course (step t code s) → Follows t code course (on s)
  follows_on (done o) s h = (suc h.0, h.1)
  follows_on (ask q next) s h = (suc h.0, h.1, h.2, h.3)
  follows_on (put p next) s h = (suc h.0, h.1, h.2, h.3)

  pub follows_step : (course : Course) (s : State) (i : Instr) → slice_get code.instrs s.frame.at ≡ Some i →
      Follows t code course (step_by t code s i) → Follows t code course (on s)
  follows_step course s i e h = follows_on course s (subst (λ (x : Option Instr). Follows t code course (step_at t code s x)) (sym e) h)

  pub follows_fails : (c : Counts) (why : List ℕ) → Follows t code (done (record { reply = failed why; cost = c.cost })) (fails c why)
  follows_fails c why = (0, refl)

  -- what goes on with a value on the stack
  abbrev pub Goes : (place : ℕ) → (vars stack : List Value) → (loops : List (List Value)) → (callers : List Frame) → (Value → Counts → Course) → Type 0
  Goes place vars stack loops callers next = (v : Value) (c : Counts) → Follows t code (next v c) (on (state place vars (v ∷ stack) loops callers c))

  -- what an operation gives is pushed
  pub given_follows : (s : State) (stack : List Value) (next : Value → Counts → Course) → ((v : Value) → Follows t code (next v s.counts) (pushes s v stack)) →
      (g : ops.Given) → Follows t code (given g s.counts next) (pushes_given s g stack)
  given_follows s stack next goes (Ok v) = goes v
  given_follows s stack next goes (Err e) = (0, refl)

  -- an instruction that ends a run with a `TypeError`
  pub fail_follows : (s : State) → slice_get code.instrs s.frame.at ≡ Some instr.Fail → Follows t code (done (record { reply = failed (codes "TypeError"); cost = s.counts.cost })) (on s)
  fail_follows s here = follows_step (done (record { reply = failed (codes "TypeError"); cost = s.counts.cost })) s instr.Fail here (0, refl)
