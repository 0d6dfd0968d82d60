-- Steps that take values and push one.
use Rattle.std.proofs.Common.{◌≡◌, ℕ, true, List, [], ◌∷◌, Option, Some, None, refl, sym, subst}
use Rattle.std.specs.Prelude.{pos, negsuc, Ok, nat_le, if◌then◌else◌}
use Rattle.cv_values.specs.Value.{Value, int, boolean}
use Rattle.fn_ops.specs.Operations as ops
use Rattle.fn_tree.specs.Actions.{Counts, given, as_truth}
use Rattle.fn_tree.specs.Course.{Course}
use Rattle.fn_tree.specs.Reading.{limit_of}
use Rattle.fn_code.specs.CodeMeans.{Follows}
use Rattle.fn_code.specs.States.{Frame, State, Next, on}
use Rattle.fn_code.specs.Steps.{Terms, step_by, pushes, on_one, on_many, is_truth, is_limit, limit_in, limit_on, under_limit}
use Rattle.fn_code.specs.declared.code.Code.{Code}
use Rattle.fn_code.specs.declared.code.Instr.{Instr}
use Rattle.fn_code.specs.declared.code.Instr.TheVariants as instr
use Rattle.fn_code.proofs.Places.{Stands, state, Goes, follows_step, given_follows}

module _ (t : Terms) (code : Code) (vars : List Value) (loops : List (List Value)) (callers : List Frame) where
  -- where a machine with these variables stands
  abbrev pub At : (place : ℕ) → (stack : List Value) → Counts → State
  At place stack c = state place vars stack loops callers c

  abbrev pub GoesAt : (place : ℕ) → (stack : List Value) → (Value → Counts → Course) → Type 0
  GoesAt place stack next = Goes t code place vars stack loops callers next

  -- an instruction that pushes a value
  pub pushed_follows : (place behind : ℕ) (stack : List Value) (i : Instr) → Stands code.instrs place (i ∷ []) behind → (v : Value) → ((s : State) → step_by t code s i ≡ pushes s v s.frame.stack) →
      (next : Value → Counts → Course) → GoesAt behind stack next → (c : Counts) → Follows t code (next v c) (on (At place stack c))
  pushed_follows place behind stack i h v does next goes c = follows_step t code (next v c) (At place stack c) i h.0
      (subst (λ (x : Next). Follows t code (next v c) x) (sym (does (At place stack c)))
      (subst (λ (k : ℕ). Follows t code (next v c) (on (At k (v ∷ stack) c))) (sym h.1) (goes v c)))

  -- an instruction that takes one value
  pub one_follows : (place behind : ℕ) (all stack : List Value) (i : Instr) → Stands code.instrs place (i ∷ []) behind →
      (f : Value → ops.Given) (x : Option (Value × List Value)) → ((c : Counts) → step_by t code (At place all c) i ≡ on_one (At place all c) f x) →
      (v : Value) → x ≡ Some (v, stack) → (next : Value → Counts → Course) → GoesAt behind stack next → (c : Counts) →
      Follows t code (given (f v) c next) (on (At place all c))
  one_follows place behind all stack i h f x does v e next goes c = follows_step t code (given (f v) c next) (At place all c) i h.0
      (subst (λ (y : Next). Follows t code (given (f v) c next) y) (sym (does c))
      (subst (λ (y : Option (Value × List Value)). Follows t code (given (f v) c next) (on_one (At place all c) f y)) (sym e)
      (given_follows t code (At place all c) stack next (λ w. subst (λ (k : ℕ). Follows t code (next w c) (on (At k (w ∷ stack) c))) (sym h.1) (goes w c)) (f v))))

  -- an instruction that takes several
  pub many_follow : (place behind : ℕ) (all stack : List Value) (i : Instr) → Stands code.instrs place (i ∷ []) behind →
      (f : List Value → ops.Given) (x : Option (List Value × List Value)) → ((c : Counts) → step_by t code (At place all c) i ≡ on_many (At place all c) f x) →
      (vs : List Value) → x ≡ Some (vs, stack) → (next : Value → Counts → Course) → GoesAt behind stack next → (c : Counts) →
      Follows t code (given (f vs) c next) (on (At place all c))
  many_follow place behind all stack i h f x does vs e next goes c = follows_step t code (given (f vs) c next) (At place all c) i h.0
      (subst (λ (y : Next). Follows t code (given (f vs) c next) y) (sym (does c))
      (subst (λ (y : Option (List Value × List Value)). Follows t code (given (f vs) c next) (on_many (At place all c) f y)) (sym e)
      (given_follows t code (At place all c) stack next (λ w. subst (λ (k : ℕ). Follows t code (next w c) (on (At k (w ∷ stack) c))) (sym h.1) (goes w c)) (f vs))))

  -- a value that has to be a truth value
  pub truth_follows : (place behind : ℕ) (stack : List Value) → Stands code.instrs place (instr.AsTruth ∷ []) behind →
      (next : Value → Counts → Course) → GoesAt behind stack next → (v : Value) (c : Counts) →
      Follows t code (as_truth v c (λ x d. next (boolean x) d)) (on (At place (v ∷ stack) c))
  truth_follows place behind stack h next goes v c = follows_step t code (as_truth v c (λ x d. next (boolean x) d)) (At place (v ∷ stack) c) instr.AsTruth h.0 (by v)
    where
      by : (w : Value) → Follows t code (as_truth w c (λ x d. next (boolean x) d)) (is_truth (At place (v ∷ stack) c) (w ∷ stack))
      by (boolean x) = subst (λ (k : ℕ). Follows t code (next (boolean x) c) (on (At k (boolean x ∷ stack) c))) (sym h.1) (goes (boolean x) c)
      by w = (0, refl)

  -- a value that has to be a number of rows
  pub limit_follows : (place behind : ℕ) (stack : List Value) → Stands code.instrs place (instr.AsLimit ∷ []) behind →
      (next : Option ℕ → Counts → Course) →
      ((limit : Option ℕ) (all : List Value) (c : Counts) → under_limit true all ≡ stack → limit_on true all ≡ Ok limit → Follows t code (next limit c) (on (At behind all c))) →
      (v : Value) (c : Counts) → Follows t code (limit_of v c next) (on (At place (v ∷ stack) c))
  limit_follows place behind stack h next goes v c = follows_step t code (limit_of v c next) (At place (v ∷ stack) c) instr.AsLimit h.0 (by v)
    where
      by : (w : Value) → Follows t code (limit_of w c next) (is_limit (At place (v ∷ stack) c) w stack (limit_in w))
      by (int (pos n)) = subst (λ (k : ℕ). Follows t code (next (if nat_le n 4294967295 then Some n else None) c) (on (At k (int (pos n) ∷ stack) c))) (sym h.1)
          (goes (if nat_le n 4294967295 then Some n else None) (int (pos n) ∷ stack) c refl refl)
      by (int (negsuc n)) = (0, refl)
      by w = (0, refl)
