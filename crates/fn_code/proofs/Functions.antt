-- Functions: the code of each means it, and sees the helpers before it.
use Rattle.std.proofs.Common.{ℕ, ◌+◌, Bool, true, false, ◌==◌, List, [], ◌∷◌, ◌++◌, length, map, Option, Some, None, refl, subst}
use Rattle.cv_values.specs.Value.{Value, null}
use Rattle.fn_tree.specs.Actions.{Counts, Meaning, Scope, or_type_error}
use Rattle.fn_tree.specs.Functions.{function_means}
use Rattle.fn_tree.specs.Meaning.{Return, body_means}
use Rattle.fn_tree.specs.Names.{bound_to}
use Rattle.fn_tree.specs.Schemas.{text_of}
use Rattle.fn_tree.specs.SyntaxTree.{FunctionTree}
use Rattle.fn_code.specs.CodeMeans.{Follows}
use Rattle.fn_code.specs.Coding.{stmts_code, function_code}
use Rattle.fn_code.specs.States.{Frame, on}
use Rattle.fn_code.specs.Steps.{Terms}
use Rattle.fn_code.specs.declared.code.Code.{Code}
use Rattle.fn_code.specs.declared.code.Instr.TheVariants as instr
use Rattle.fn_code.specs.declared.known.Callee.{Callee}
use Rattle.fn_code.proofs.Calls.{AreCodes, IsCode, Returns, entered}
use Rattle.fn_code.proofs.Expressions.{knowing}
use Rattle.fn_code.proofs.Places.{Stands, stands_split, values_in, site_of, state, follows_step}
use Rattle.fn_code.proofs.Slots.{Binds, binds}
use Rattle.fn_code.proofs.Statements.{stmts_follow}

-- the code of one more helper
pub codes_more : (t : Terms) (code : Code) (fs : List (List ℕ × Meaning)) (ks : List (List ℕ × Callee)) (name : List ℕ) (f : Meaning) (k : Callee) →
    AreCodes t code fs ks → IsCode t code f k → AreCodes t code (fs ++ (name, f) ∷ []) (ks ++ (name, k) ∷ [])
codes_more t code [] [] name f k given is = (refl, is, tt)
codes_more t code [] (l ∷ ks) name f k given is = absurd given
codes_more t code (g ∷ fs) [] name f k given is = absurd given
codes_more t code (g ∷ fs) (l ∷ ks) name f k given is = (given.0, given.1, codes_more t code fs ks name f k given.2 is)

module _ (t : Terms) (code : Code) (helpers : List (List ℕ × Meaning)) (callees : List (List ℕ × Callee)) (helped : AreCodes t code helpers callees) where
  -- a body that ends gives null
  null_follows : (place behind : ℕ) (vars : List Value) (callers : List Frame) → Stands code.instrs place (instr.Null ∷ instr.Return ∷ []) behind →
      (back : Return) → Returns t code callers back → (c : Counts) → Follows t code (back null c) (on (state place vars [] [] callers c))
  null_follows place behind vars callers h back gives c =
      follows_step t code (back null c) (state place vars [] [] callers c) instr.Null h.0
      (follows_step t code (back null c) (state (place + 1) vars (null ∷ []) [] callers c) instr.Return h.1.0 (gives null c))

  pub function_follows : (f : FunctionTree) (place behind : ℕ) → Stands code.instrs place (function_code (knowing code callees []) f) behind →
      (vs : List Value) (callers : List Frame) (back : Return) (c : Counts) → Returns t code callers back →
      Follows t code (function_means (site_of t code helpers) f vs c back) (entered place vs callers c (length f.params == length vs))
  function_follows f place behind h vs callers back c gives = go (length f.params == length vs) (bound_to f.params vs) (binds f.params vs)
    where
      go : (b : Bool) (x : Option Scope) → Binds f.params vs b x → Follows t code (or_type_error x c (λ scope d. body_means f.body (site_of t code helpers) scope d back)) (entered place vs callers c b)
      go false None k = (0, refl)
      go false (Some scope) k = absurd k
      go true None k = absurd k
      go true (Some scope) k =
          let first = stands_split code.instrs place (stmts_code (knowing code callees (map text_of f.params)) f.body) (instr.Null ∷ instr.Return ∷ []) behind h in
          subst (λ (vars : List Value). Follows t code (body_means f.body (site_of t code helpers) scope c back) (on (state place vars [] [] callers c))) k.1
          (stmts_follow t code helpers callees helped callers back gives f.body (map text_of f.params) scope k.0 [] place first.0 first.1 _
          (λ after d longer. null_follows first.0 behind (values_in after) callers first.2 back gives d) c)
