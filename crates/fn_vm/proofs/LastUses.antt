-- What two instructions do, the first of which uses the value of a variable for the last time.
use Rattle.std.proofs.Common.{◌≡◌, ◌⊎◌, inl, inr, ℕ, zero, suc, ◌+◌, ◌<◌, List, [], ◌∷◌, Option, Some, None, Result, Ok, Err, refl, sym, ap, subst, ◌∙◌, arith}
use Rattle.std.specs.Prelude.{option_map, slice_get}
use Rattle.cv_values.specs.Value.{Value}
use Rattle.fn_code.specs.CodeMeans.{Follows}
use Rattle.fn_code.specs.Operands.{operand, operands, stored}
use Rattle.fn_code.specs.States.{State, Next, on, asks, puts, ends}
use Rattle.fn_code.specs.Steps.{Terms, pushes_given, loads, on_many, step_by, step_at, step}
use Rattle.fn_code.specs.declared.code.Code.{Code}
use Rattle.fn_code.specs.declared.code.Instr.{Instr}
use Rattle.fn_code.specs.declared.code.Instr.TheVariants as instr
use Rattle.fn_code.specs.declared.code.Source.{Source}
use Rattle.fn_code.specs.declared.code.Source.TheVariants.{Slot}
use Rattle.fn_code.specs.Weights.{weight}
use Rattle.fn_ops.specs.Operations.{Given}
use Rattle.fn_tree.specs.Course.{Course}
use Rattle.fn_tree.specs.Operators.{builtin_value}
use Rattle.fn_tree.specs.declared.syntax.Builtin.TheVariants as builtin
use Rattle.fn_vm.proofs.Following.{follows_step}
use Rattle.fn_vm.proofs.Machines.{reaches}
use Rattle.fn_vm.proofs.OperandsTaken.{on_many_is, more_operands}
use Rattle.fn_vm.specs.Held.{given_many, all_there}
use Rattle.fn_vm.specs.LastUses.{first_in, second_in, followed_by, Leads}
use Rattle.fn_vm.specs.Machines.{Reaches}
use Rattle.fn_vm.specs.Moves.{Moves}
use Rattle.fn_vm.specs.Views.{went}
use Rattle.fn_vm.specs.declared.last_use.LastUse.{LastUse}
use Rattle.fn_vm.specs.declared.last_use.LastUse.TheVariants.{Push, Set, Return}
use Rattle.fn_vm.specs.declared.stop.Stop.{Stop}

-- a variable that is stored twice has the later value
pub stored_again : (n : ℕ) (v w : Value) (vars : List Value) → stored n v (stored n w vars) ≡ stored n v vars
stored_again n v w [] = refl
stored_again zero v w (x ∷ vars) = refl
stored_again (suc n) v w (x ∷ vars) = ap (λ (xs : List Value). x ∷ xs) (stored_again n v w vars)

-- an item more, by the operand that was taken
pub item_used : (t : Terms) (code : Code) (s : State) (n : ℕ) (a : Source) (left : List Value) (x : Option Value) (next : Next) →
    operand a s.frame.vars s.frame.stack ≡ option_map {U = Value × List Value} (λ v. (v, left)) x →
    followed_by t code (instr.Store n) (pushes_given s (given_many (builtin_value builtin.Push) (all_there (slice_get s.frame.vars n ∷ x ∷ []))) left) ≡ next →
    followed_by t code (second_in (Push n a)) (step_by t code s (first_in (Push n a))) ≡ next
item_used t code s n a left x next e h =
    let vars = s.frame.vars in let stack = s.frame.stack in
    ap (followed_by t code (instr.Store n))
    (ap (on_many s (builtin_value builtin.Push)) (more_operands (Slot n) (a ∷ []) vars stack left left (slice_get vars n) (x ∷ []) (more_operands a [] vars stack stack left x [] refl e) refl)
    ∙ on_many_is s (builtin_value builtin.Push) left (all_there (slice_get vars n ∷ x ∷ [])))
    ∙ h

-- a field more, by the operands that were taken
pub field_used : (t : Terms) (code : Code) (s : State) (n : ℕ) (a b : Source) (mid left : List Value) (x y : Option Value) (next : Next) →
    operand b s.frame.vars s.frame.stack ≡ option_map {U = Value × List Value} (λ v. (v, mid)) y →
    operand a s.frame.vars mid ≡ option_map {U = Value × List Value} (λ v. (v, left)) x →
    followed_by t code (instr.Store n) (pushes_given s (given_many (builtin_value builtin.Set) (all_there (slice_get s.frame.vars n ∷ x ∷ y ∷ []))) left) ≡ next →
    followed_by t code (second_in (Set n a b)) (step_by t code s (first_in (Set n a b))) ≡ next
field_used t code s n a b mid left x y next e f h =
    let vars = s.frame.vars in let stack = s.frame.stack in
    ap (followed_by t code (instr.Store n))
    (ap (on_many s (builtin_value builtin.Set)) (more_operands (Slot n) (a ∷ b ∷ []) vars stack left left (slice_get vars n) (x ∷ y ∷ [])
    (more_operands a (b ∷ []) vars stack mid left x (y ∷ []) (more_operands b [] vars stack stack mid y [] refl e) f) refl)
    ∙ on_many_is s (builtin_value builtin.Set) left (all_there (slice_get vars n ∷ x ∷ y ∷ [])))
    ∙ h

-- the place where the run goes on, or another
abbrev place_in : ℕ → Next → ℕ
place_in k (on s) = s.frame.at
place_in k x = k

given_behind : (s between : State) (g : Given) (stack : List Value) → pushes_given s g stack ≡ on between → s.frame.at + 1 ≡ between.frame.at
given_behind s between (Ok v) stack e = ap (place_in (s.frame.at + 1)) e
given_behind s between (Err why) stack e = ap (place_in (s.frame.at + 1)) e

many_behind : (s between : State) (op : List Value → Given) (o : Option (List Value × List Value)) → on_many s op o ≡ on between → s.frame.at + 1 ≡ between.frame.at
many_behind s between op None e = ap (place_in (s.frame.at + 1)) e
many_behind s between op (Some vs) e = given_behind s between (op vs.0) vs.1 e

load_behind : (s between : State) (o : Option Value) → loads s o ≡ on between → s.frame.at + 1 ≡ between.frame.at
load_behind s between None e = ap (place_in (s.frame.at + 1)) e
load_behind s between (Some v) e = ap (place_in (s.frame.at + 1)) e

-- where the first instruction leads on, it leads to the second
leads_behind : (t : Terms) (code : Code) (s between : State) (last : LastUse) → step_by t code s (first_in last) ≡ on between → s.frame.at + 1 ≡ between.frame.at
leads_behind t code s between (Push n x) e = many_behind s between (builtin_value builtin.Push) (operands (Slot n ∷ x ∷ []) s.frame.vars s.frame.stack) e
leads_behind t code s between (Set n x y) e = many_behind s between (builtin_value builtin.Set) (operands (Slot n ∷ x ∷ y ∷ []) s.frame.vars s.frame.stack) e
leads_behind t code s between (Return n) e = load_behind s between (slice_get s.frame.vars n) e

-- two instructions lead where the pair does
pub pair_leads : (t : Terms) (code : Code) (s after : State) (last : LastUse) (stop : Option Stop) →
    slice_get code.instrs s.frame.at ≡ Some (first_in last) → slice_get code.instrs (s.frame.at + 1) ≡ Some (second_in last) →
    Moves (followed_by t code (second_in last) (step_by t code s (first_in last))) stop after → Leads t code s stop after
pair_leads t code s after last stop is then moves = go (step_by t code s (first_in last)) refl moves
  where
    first : step t code s ≡ step_by t code s (first_in last)
    first = ap (step_at t code s) is

    go : (x : Next) → step_by t code s (first_in last) ≡ x → Moves (followed_by t code (second_in last) x) stop after → Leads t code s stop after
    go (on between) e m = inr (
      between,
      first ∙ e,
      subst (λ (x : Next). Moves x stop after)
          (sym (ap (λ (p : ℕ). step_at t code between (slice_get code.instrs p)) (sym (leads_behind t code s between last e)) ∙ ap (step_at t code between) then)) m,
    )
    go (asks q s') e m = inl (subst (λ (x : Next). Moves x stop after) (sym (first ∙ e)) m)
    go (puts p s') e m = inl (subst (λ (x : Next). Moves x stop after) (sym (first ∙ e)) m)
    go (ends o) e m = inl (subst (λ (x : Next). Moves x stop after) (sym (first ∙ e)) m)

-- ---- a machine that goes on by one instruction or two

-- where a run led on, it follows the same course
pub led_on : (t : Terms) (code : Code) (k : Course) (s after : State) → Follows t code k (on s) → Leads t code s None after → Follows t code k (on after)
led_on t code k s after f (inl e) = subst (Follows t code k) e (follows_step t code k s f)
led_on t code k s after f (inr (between, e, g)) =
    subst (Follows t code k) g (follows_step t code k between (subst (Follows t code k) e (follows_step t code k s f)))

-- where a run led on, it weighs less
pub leads_less : (t : Terms) (code : Code) (s after : State) → ((a b : State) → step t code a ≡ on b → weight t code b < weight t code a) → Leads t code s None after → weight t code after < weight t code s
leads_less t code s after less (inl e) = less s after e
leads_less t code s after less (inr (between, e, g)) = let first = less s between e in let second = less between after g in omega (arith, first, second)

-- where a run led to a stop, it is the course's
pub leads_to : (t : Terms) (code : Code) (k : Course) (s : State) (stop : Stop) (after : State) → Follows t code k (on s) → Leads t code s (Some stop) after → Reaches t code k stop after
leads_to t code k s stop after f (inl m) = reaches t code k (step t code s) stop after (follows_step t code k s f) m
leads_to t code k s stop after f (inr (between, e, m)) =
    reaches t code k (step t code between) stop after (follows_step t code k between (subst (Follows t code k) e (follows_step t code k s f))) m
