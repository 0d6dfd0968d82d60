-- Values that are taken off a stack.
use Rattle.std.proofs.Common.{◌≡◌, ℕ, zero, suc, ◌+◌, List, [], ◌∷◌, length, Some, sym, ap, ◌∙◌, subst, arith, ap₂, drop}
use Rattle.std.proofs.lemmas.Option.{some_pair_parts, none-some}
use Rattle.std.specs.Prelude.{option_and_then, option_map}
use Rattle.cv_values.specs.Value.{Value}
use Rattle.fn_code.specs.Operands.{operand, operands, popped}
use Rattle.fn_code.specs.declared.code.Source.{Source}

abbrev first_or : Value → List Value → Value
first_or v [] = v
first_or v (w ∷ ws) = w

nil_no_cons : {v : Value} {vs : List Value} → [] ≡ v ∷ vs → ⊥
nil_no_cons {v} {vs} e = let n : 0 ≡ suc (length vs) = ap (λ (l : List Value). length l) e in omega arith

-- what was put under others comes before them
pub popped_more : (n : ℕ) (later stack : List Value) (vs : List Value) (v : Value) (rest : List Value) →
    popped n later stack ≡ Some (vs, v ∷ rest) → popped (suc n) later stack ≡ Some (v ∷ vs, rest)
popped_more zero later [] vs v rest e = let parts = some_pair_parts later vs [] (v ∷ rest) e in absurd (nil_no_cons parts.1)
popped_more zero later (w ∷ stack) vs v rest e =
    let parts = some_pair_parts later vs (w ∷ stack) (v ∷ rest) e in
    ap₂ (λ (a b : List Value). Some (a, b)) (ap₂ (λ (x : Value) (xs : List Value). x ∷ xs) (ap (λ (l : List Value). first_or w l) parts.1) parts.0) (ap (λ (l : List Value). drop 1 l) parts.1)
popped_more (suc n) later [] vs v rest e = absurd (none-some (vs, v ∷ rest) e)
popped_more (suc n) later (w ∷ stack) vs v rest e = popped_more n (w ∷ later) stack vs v rest e

pub popped_next : (n : ℕ) (stack : List Value) (vs : List Value) (v : Value) (rest : List Value) →
    popped n [] stack ≡ Some (vs, v ∷ rest) → popped (n + 1) [] stack ≡ Some (v ∷ vs, rest)
popped_next n stack vs v rest e = let one : suc n ≡ n + 1 = omega arith in subst (λ m. popped m [] stack ≡ Some (v ∷ vs, rest)) one (popped_more n [] stack vs v rest e)

-- as many values are taken as were asked for
pub popped_length : (n : ℕ) (later stack vs rest : List Value) → popped n later stack ≡ Some (vs, rest) → length vs ≡ n + length later
popped_length zero later stack vs rest e = sym (ap (λ (l : List Value). length l) (some_pair_parts later vs stack rest e).0) ∙ (omega arith)
popped_length (suc n) later [] vs rest e = absurd (none-some (vs, rest) e)
popped_length (suc n) later (w ∷ stack) vs rest e = popped_length n (w ∷ later) stack vs rest e ∙ (omega arith)

pub operands_more : (s : Source) (ss : List Source) (vars stack between rest : List Value) (v : Value) (vs : List Value) →
    operand s vars between ≡ Some (v, rest) → operands ss vars stack ≡ Some (vs, between) → operands (s ∷ ss) vars stack ≡ Some (v ∷ vs, rest)
operands_more s ss vars stack between rest v vs e f =
    ap (option_and_then (λ (below : List Value × List Value). option_map (λ (first : Value × List Value). (first.0 ∷ below.0, first.1)) (operand s vars below.1))) f
    ∙ ap (option_map (λ (first : Value × List Value). (first.0 ∷ vs, first.1))) e
