-- Helpers with their codes, and calls of them.
use Rattle.std.proofs.Common.{◌≡◌, ℕ, ◌+◌, Bool, true, false, cond, ◌==◌, List, [], ◌∷◌, length, Option, Some, None, refl, sym, ◌∙◌, subst, arith}
use Rattle.std.specs.Prelude.{slice_get, codes, nat_le, if◌then◌else◌}
use Rattle.std.specs.Str.{bytes_eq}
use Rattle.cv_values.specs.Value.{Value}
use Rattle.fn_tree.specs.Actions.{Counts, Meaning, or_type_error, fail, spend}
use Rattle.fn_tree.specs.Course.{Course}
use Rattle.fn_tree.specs.Meaning.{Return, helper_value}
use Rattle.fn_tree.specs.Names.{at_name}
use Rattle.fn_code.specs.CodeMeans.{Follows}
use Rattle.fn_code.specs.Coding.{call_code, no_call}
use Rattle.fn_code.specs.Operands.{popped}
use Rattle.fn_code.specs.States.{Frame, State, Next, on, fails}
use Rattle.fn_code.specs.Steps.{Terms, returns, calls, call_at}
use Rattle.fn_code.specs.declared.code.Code.{Code}
use Rattle.fn_code.specs.declared.code.Entry.{Entry}
use Rattle.fn_code.specs.declared.code.Instr.TheVariants as instr
use Rattle.fn_code.specs.declared.known.Callee.{Callee}
use Rattle.fn_code.proofs.Places.{Stands, site_of, state, Goes, follows_step}
use Rattle.fn_code.proofs.Stacks.{popped_length}

-- a value that is given back to these callers goes on as a course does
abbrev pub Returns : Terms → Code → List Frame → Return → Type 0
Returns t code callers back = (v : Value) (c : Counts) → Follows t code (back v c) (returns t c callers v)

-- a function at its first instruction, unless it has another number of parameters
abbrev pub entered : (place : ℕ) → List Value → List Frame → Counts → Bool → Next
entered place vs callers c true = on (state place vs [] [] callers c)
entered place vs callers c false = fails c (codes "TypeError")

-- the code of a helper means it
abbrev pub IsCode : Terms → Code → Meaning → Callee → Type 0
IsCode t code f k = (e : Entry) × (slice_get code.entries k.number ≡ Some e)
    × ((vs : List Value) (callers : List Frame) (back : Return) (c : Counts) → Returns t code callers back → Follows t code (f vs c back) (entered e.at vs callers c (k.params == length vs)))

-- the same of all helpers, which have the same names
abbrev pub AreCodes : Terms → Code → List (List ℕ × Meaning) → List (List ℕ × Callee) → Type 0
AreCodes t code [] [] = Unit {0}
AreCodes t code (f ∷ fs) (k ∷ ks) = (f.0 ≡ k.0) × IsCode t code f.1 k.1 × AreCodes t code fs ks
AreCodes t code fs ks = ⊥

abbrev pub IsFound : Terms → Code → Option Meaning → Option Callee → Type 0
IsFound t code None None = Unit {0}
IsFound t code (Some f) (Some k) = IsCode t code f k
IsFound t code f k = ⊥

found : (t : Terms) (code : Code) (h : List ℕ) (fs : List (List ℕ × Meaning)) (ks : List (List ℕ × Callee)) → AreCodes t code fs ks → IsFound t code (at_name h fs) (at_name h ks)
found t code h [] [] given = tt
found t code h [] (k ∷ ks) given = absurd given
found t code h (f ∷ fs) [] given = absurd given
found t code h (f ∷ fs) (k ∷ ks) given =
    subst (λ (n : List ℕ). IsFound t code (at_name h (f ∷ fs)) (cond (bytes_eq n h) (Some k.1) (at_name h ks))) given.0 (go (bytes_eq f.0 h) (found t code h fs ks given.2))
  where
    go : (b : Bool) → IsFound t code (at_name h fs) (at_name h ks) → IsFound t code (cond b (Some f.1) (at_name h fs)) (cond b (Some k.1) (at_name h ks))
    go true rest = given.1
    go false rest = rest

module _ (t : Terms) (code : Code) (helpers : List (List ℕ × Meaning)) (callees : List (List ℕ × Callee)) (given : AreCodes t code helpers callees) where
  pub call_follows : (place behind : ℕ) (vars all stack : List Value) (loops : List (List Value)) (callers : List Frame) (h : List ℕ) (n : ℕ) →
      Stands code.instrs place (call_code (at_name h callees) n) behind → (vs : List Value) → popped n [] all ≡ Some (vs, stack) →
      (next : Value → Counts → Course) → Goes t code behind vars stack loops callers next → (c : Counts) →
      Follows t code (helper_value (site_of t code helpers) h vs c next) (on (state place vars all loops callers c))
  call_follows place end vars all stack loops callers h n stands vs values next goes c =
      by (at_name h helpers) (at_name h callees) (found t code h helpers callees given) stands
    where
      d : Counts
      d = record c { cost = c.cost + 1 }

      front : State
      front = state place vars all loops callers c

      s : State
      s = state place vars all loops callers d

      many : length vs ≡ n
      many = popped_length n [] all vs stack values ∙ (omega arith)

      after : Option Meaning → Unit {0} → Counts → Course
      after f u e = or_type_error f e (λ g m. g vs m next)

      course : Option Meaning → Course
      course f = spend (site_of t code helpers) c (after f)

      -- the unit is spent, and the call can't be made
      refused : (f : Option Meaning) → Follows t code (after f tt d) (fails d (codes "TypeError")) → Stands code.instrs place no_call end → Follows t code (course f) (on front)
      refused f ends stands = follows_step t code (course f) front instr.Spend stands.0 (go (nat_le d.cost t.limits.cost))
        where
          go : (b : Bool) → Follows t code (elim b [ true ↦ after f tt d | false ↦ fail {A = Unit {0}} (codes "CostLimit") d (after f) ])
              (elim b [ true ↦ on (state (place + 1) vars all loops callers d) | false ↦ fails d (codes "CostLimit") ])
          go true = follows_step t code (after f tt d) (state (place + 1) vars all loops callers d) instr.Fail stands.1.0 ends
          go false = (0, refl)

      caller : ℕ → Frame
      caller at = record { at = at; vars = vars; stack = stack; loops = loops }

      -- what a function gives back goes on behind the call
      means : (f : Meaning) (k : Callee) (is : IsCode t code f k) (at : ℕ) → at ≡ end → Follows t code (f vs d next) (entered is.0.at vs (caller at ∷ callers) d (k.params == length vs))
      means f k is at e = is.2 vs (caller at ∷ callers) next d (λ v g. subst (λ (k : ℕ). Follows t code (next v g) (on (state k vars (v ∷ stack) loops callers g))) (sym e) (goes v g))

      enters : (f : Meaning) (k : Callee) (is : IsCode t code f k) → (k.params == length vs) ≡ true → place + 1 ≡ end → (b : Bool) →
          Follows t code (elim b [ true ↦ f vs d next | false ↦ fail {A = Unit {0}} (codes "CostLimit") d (after (Some f)) ])
          (elim b [ true ↦ call_at s n (slice_get code.entries k.number) | false ↦ fails d (codes "CostLimit") ])
      enters f k is e stands true =
          subst (λ (x : Option Entry). Follows t code (f vs d next) (call_at s n x)) (sym is.1)
          (subst (λ (x : Option (List Value × List Value)). Follows t code (f vs d next) (calls s is.0.at x)) (sym values)
          (subst (λ (b : Bool). Follows t code (f vs d next) (entered is.0.at vs (caller (place + 1) ∷ callers) d b)) e (means f k is (place + 1) stands)))
      enters f k is e stands false = (0, refl)

      called : (f : Meaning) (k : Callee) → IsCode t code f k → (b : Bool) → (k.params == length vs) ≡ b →
          Stands code.instrs place (if b then instr.Call k.number n ∷ [] else no_call) end → Follows t code (course (Some f)) (on front)
      called f k is true e stands =
          follows_step t code (course (Some f)) front (instr.Call k.number n) stands.0 (enters f k is e stands.1 (nat_le d.cost t.limits.cost))
      called f k is false e stands = refused (Some f)
          (subst (λ (b : Bool). Follows t code (f vs d next) (entered is.0.at vs (caller (place + 1 + 1) ∷ callers) d b)) e (means f k is (place + 1 + 1) stands.1.1)) stands

      by : (f : Option Meaning) (k : Option Callee) → IsFound t code f k → Stands code.instrs place (call_code k n) end → Follows t code (course f) (on front)
      by None None is stands = refused None (0, refl) stands
      by None (Some k) is stands = absurd is
      by (Some f) None is stands = absurd is
      by (Some f) (Some k) is stands = called f k is (k.params == length vs) refl
          (subst (λ (m : ℕ). Stands code.instrs place (if k.params == m then instr.Call k.number n ∷ [] else no_call) end) (sym many) stands)
