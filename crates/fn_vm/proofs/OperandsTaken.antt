-- What an operation gives of operands that were taken one after the other, the last one first.
use Rattle.std.proofs.Common.{◌≡◌, ◌<◌, ◌≤◌, ℕ, suc, List, [], ◌∷◌, length, Option, Some, None, Result, Ok, Err, IfSome, IfOk, IfErr, refl, ap, ap₂, ◌∙◌, subst, arith}
use Rattle.std.specs.Prelude.{option_and_then, option_map}
use Rattle.cv_values.specs.Trees.{tree}
use Rattle.cv_values.specs.Value.{Value}
use Rattle.cv_values.specs.declared.val.Val.{Val}
use Rattle.fn_code.specs.Operands.{operand, operands}
use Rattle.fn_code.specs.States.{State, Next}
use Rattle.fn_code.specs.Steps.{pushes_given, on_many, stuck}
use Rattle.fn_code.specs.declared.code.Source.{Source}
use Rattle.fn_ops.specs.Operations.{Given}
use Rattle.fn_ops.specs.declared.fault.OpFault.{OpFault}
use Rattle.fn_ops.specs.declared.fault.OpFault.TheVariants.{Type_}
use Rattle.fn_tree.specs.Operators.{builtin_value}
use Rattle.fn_tree.specs.declared.syntax.Builtin.{Builtin}
use Rattle.fn_tree.specs.declared.syntax.Builtin.TheVariants.{Len, Has, Push, Set, Without, Slice, Range, Show, Keys}
use Rattle.fn_vm.specs.Held.{IsGiven, given_many, all_there}

pub on_many_is : (s : State) (op : List Value → Given) (stack : List Value) (o : Option (List Value)) →
    on_many s op (option_map {U = List Value × List Value} (λ vs. (vs, stack)) o) ≡ pushes_given s (given_many op o) stack
on_many_is s op stack None = refl
on_many_is s op stack (Some vs) = refl

put_first : (vs stack : List Value) (x : Option Value) →
    option_map {U = List Value × List Value} (λ (first : Value × List Value). (first.0 ∷ vs, first.1)) (option_map {U = Value × List Value} (λ v. (v, stack)) x) ≡ option_map {U = List Value × List Value} (λ ws. (ws, stack)) (option_map (λ v. v ∷ vs) x)
put_first vs stack None = refl
put_first vs stack (Some v) = refl

more_found : (a : Source) (vars under left : List Value) (x : Option Value) (xs : Option (List Value)) →
    operand a vars under ≡ option_map {U = Value × List Value} (λ v. (v, left)) x →
    option_and_then {U = List Value × List Value} (λ (rest : List Value × List Value). option_map {U = List Value × List Value} (λ (first : Value × List Value). (first.0 ∷ rest.0, first.1)) (operand a vars rest.1)) (option_map {U = List Value × List Value} (λ vs. (vs, under)) xs)
    ≡ option_map {U = List Value × List Value} (λ vs. (vs, left)) (option_and_then (λ (vs : List Value). option_map (λ (v : Value). v ∷ vs) x) xs)
more_found a vars under left x None e = refl
more_found a vars under left x (Some vs) e = ap (option_map {U = List Value × List Value} (λ (first : Value × List Value). (first.0 ∷ vs, first.1))) e ∙ put_first vs left x

-- one operand more, before the others
pub more_operands : (a : Source) (ss : List Source) (vars stack under left : List Value) (x : Option Value) (xs : List (Option Value)) →
    operands ss vars stack ≡ option_map {U = List Value × List Value} (λ vs. (vs, under)) (all_there xs) → operand a vars under ≡ option_map {U = Value × List Value} (λ v. (v, left)) x →
    operands (a ∷ ss) vars stack ≡ option_map {U = List Value × List Value} (λ vs. (vs, left)) (all_there (x ∷ xs))
more_operands a ss vars stack under left x xs e f =
    ap (option_and_then {U = List Value × List Value} (λ (rest : List Value × List Value). option_map {U = List Value × List Value} (λ (first : Value × List Value). (first.0 ∷ rest.0, first.1)) (operand a vars rest.1))) e
    ∙ more_found a vars under left x (all_there xs) f

-- what an operation gives of some operands, by the values that were seen
pub all_given : (s : State) (op : List Value → Given) (ss : List Source) (vars stack left : List Value) (xs seen : List (Option Value)) (r : Result Val OpFault) (next : Next) →
    operands ss vars stack ≡ option_map {U = List Value × List Value} (λ vs. (vs, left)) (all_there xs) → seen ≡ xs → IsGiven r (given_many op (all_there seen)) →
    ((g : Given) → IsGiven r g → pushes_given s g left ≡ next) → on_many s op (operands ss vars stack) ≡ next
all_given s op ss vars stack left xs seen r next e f g h =
    ap (on_many s op) e ∙ on_many_is s op left (all_there xs) ∙ h (given_many op (all_there xs)) (subst (λ ys. IsGiven r (given_many op (all_there ys))) f g)

pub one_given : (s : State) (op : List Value → Given) (a : Source) (vars stack left : List Value) (x seen_x : Option Value) (r : Result Val OpFault) (next : Next) →
    operand a vars stack ≡ option_map {U = Value × List Value} (λ v. (v, left)) x → seen_x ≡ x → IsGiven r (given_many op (all_there (seen_x ∷ []))) →
    ((g : Given) → IsGiven r g → pushes_given s g left ≡ next) → on_many s op (operands (a ∷ []) vars stack) ≡ next
one_given s op a vars stack left x seen_x r next e f g h =
    all_given s op (a ∷ []) vars stack left (x ∷ []) (seen_x ∷ []) r next (more_operands a [] vars stack stack left x [] refl e) (ap (λ y. y ∷ []) f) g h

pub two_given : (s : State) (op : List Value → Given) (a b : Source) (vars stack mid left : List Value) (x y seen_x seen_y : Option Value) (r : Result Val OpFault) (next : Next) →
    operand b vars stack ≡ option_map {U = Value × List Value} (λ v. (v, mid)) y → operand a vars mid ≡ option_map {U = Value × List Value} (λ v. (v, left)) x →
    seen_x ≡ x → seen_y ≡ y → IsGiven r (given_many op (all_there (seen_x ∷ seen_y ∷ []))) →
    ((g : Given) → IsGiven r g → pushes_given s g left ≡ next) → on_many s op (operands (a ∷ b ∷ []) vars stack) ≡ next
two_given s op a b vars stack mid left x y seen_x seen_y r next e d fx fy g h =
    all_given s op (a ∷ b ∷ []) vars stack left (x ∷ y ∷ []) (seen_x ∷ seen_y ∷ []) r next
    (more_operands a (b ∷ []) vars stack mid left x (y ∷ []) (more_operands b [] vars stack stack mid y [] refl e) d)
    (ap₂ (λ (v w : Option Value). v ∷ w ∷ []) fx fy) g h

pub three_given : (s : State) (op : List Value → Given) (a b d : Source) (vars stack under mid left : List Value) (x y z seen_x seen_y seen_z : Option Value) (r : Result Val OpFault) (next : Next) →
    operand d vars stack ≡ option_map {U = Value × List Value} (λ v. (v, under)) z → operand b vars under ≡ option_map {U = Value × List Value} (λ v. (v, mid)) y → operand a vars mid ≡ option_map {U = Value × List Value} (λ v. (v, left)) x →
    seen_x ≡ x → seen_y ≡ y → seen_z ≡ z → IsGiven r (given_many op (all_there (seen_x ∷ seen_y ∷ seen_z ∷ []))) →
    ((g : Given) → IsGiven r g → pushes_given s g left ≡ next) → on_many s op (operands (a ∷ b ∷ d ∷ []) vars stack) ≡ next
three_given s op a b d vars stack under mid left x y z seen_x seen_y seen_z r next ez ey ex fx fy fz g h =
    all_given s op (a ∷ b ∷ d ∷ []) vars stack left (x ∷ y ∷ z ∷ []) (seen_x ∷ seen_y ∷ seen_z ∷ []) r next
    (more_operands a (b ∷ d ∷ []) vars stack mid left x (y ∷ z ∷ [])
    (more_operands b (d ∷ []) vars stack under mid y (z ∷ []) (more_operands d [] vars stack stack under z [] refl ez) ey) ex)
    (ap (λ v. v ∷ seen_y ∷ seen_z ∷ []) fx ∙ ap₂ (λ (v w : Option Value). x ∷ v ∷ w ∷ []) fy fz) g h

-- what was given of three values, by the operands that they are
pub three_seen : (r : Result Val OpFault) (op : List Value → Given) (x y z a b d : Option Value) → x ≡ a → y ≡ b → z ≡ d →
    IsGiven r (given_many op (all_there (x ∷ y ∷ z ∷ []))) → IsGiven r (given_many op (all_there (a ∷ b ∷ d ∷ [])))
three_seen r op x y z a b d p q s g =
    subst (λ xs. IsGiven r (given_many op (all_there xs))) (ap₂ (λ (v w : Option Value). v ∷ w ∷ z ∷ []) p q ∙ ap (λ (w : Option Value). a ∷ b ∷ w ∷ []) s) g

-- a fault of a call that takes no memory
pub given_exact : (r : Result Val OpFault) (g : Given) → IfOk r (λ v. g ≡ Ok (tree v)) → IfErr r (λ e. g ≡ Err e) → IsGiven r g
given_exact (Ok v) g h k = (h, tt)
given_exact (Err e) g h k = (tt, λ _. k)

-- what an operation gives of some values of the stack
pub values_given : (s : State) (op : List Value → Given) (o : Option (List Value × List Value)) (vs left : List Value) (g : Given) (r : Result Val OpFault) (next : Next) →
    o ≡ Some (vs, left) → op vs ≡ g → IsGiven r g → ((g : Given) → IsGiven r g → pushes_given s g left ≡ next) → on_many s op o ≡ next
values_given s op o vs left g r next e f d h = ap (on_many s op) e ∙ ap (λ x. pushes_given s x left) f ∙ h g d

-- ---- built-in functions of another number of operands

first_length : (n : ℕ) (vs : List Value) (o : Option (Value × List Value)) → length vs ≡ n →
    IfSome (option_map {U = List Value × List Value} (λ (first : Value × List Value). (first.0 ∷ vs, first.1)) o) (λ p. length p.0 ≡ suc n)
first_length n vs None h = tt
first_length n vs (Some v) h = ap (λ k. suc k) h

more_length : (n : ℕ) (s : Source) (vars : List Value) (o : Option (List Value × List Value)) → IfSome o (λ p. length p.0 ≡ n) →
    IfSome (option_and_then {U = List Value × List Value} (λ (rest : List Value × List Value). option_map {U = List Value × List Value} (λ (first : Value × List Value). (first.0 ∷ rest.0, first.1)) (operand s vars rest.1)) o) (λ p. length p.0 ≡ suc n)
more_length n s vars None h = tt
more_length n s vars (Some p) h = first_length n p.0 (operand s vars p.1) h

operands_length : (ss : List Source) (vars stack : List Value) → IfSome (operands ss vars stack) (λ p. length p.0 ≡ length ss)
operands_length [] vars stack = refl
operands_length (s ∷ ss) vars stack = more_length (length ss) s vars (operands ss vars stack) (operands_length ss vars stack)

none_of : (b : Builtin) → builtin_value b [] ≡ Err Type_
none_of Len = refl
none_of Has = refl
none_of Push = refl
none_of Set = refl
none_of Without = refl
none_of Slice = refl
none_of Range = refl
none_of Show = refl
none_of Keys = refl

four_of : (b : Builtin) (v w x y : Value) (vs : List Value) → builtin_value b (v ∷ w ∷ x ∷ y ∷ vs) ≡ Err Type_
four_of Len v w x y vs = refl
four_of Has v w x y vs = refl
four_of Push v w x y vs = refl
four_of Set v w x y vs = refl
four_of Without v w x y vs = refl
four_of Slice v w x y vs = refl
four_of Range v w x y vs = refl
four_of Show v w x y vs = refl
four_of Keys v w x y vs = refl

many_values : (s : State) (b : Builtin) (n : ℕ) (o : Option (List Value × List Value)) → 4 ≤ n → IfSome o (λ p. length p.0 ≡ n) → on_many s (builtin_value b) o ≡ stuck s
many_values s b n None h e = refl
many_values s b n (Some (v ∷ w ∷ x ∷ y ∷ vs, stack)) h e = ap (λ g. pushes_given s g stack) (four_of b v w x y vs)
many_values s b n (Some ([], stack)) h e = absurd (omega (arith, e, h))
many_values s b n (Some (v ∷ [], stack)) h e = absurd (omega (arith, e, h))
many_values s b n (Some (v ∷ w ∷ [], stack)) h e = absurd (omega (arith, e, h))
many_values s b n (Some (v ∷ w ∷ x ∷ [], stack)) h e = absurd (omega (arith, e, h))

pub few_operands : (s : State) (b : Builtin) (ss : List Source) (vars stack : List Value) → length ss < 1 → on_many s (builtin_value b) (operands ss vars stack) ≡ stuck s
few_operands s b [] vars stack h = ap (λ g. pushes_given s g stack) (none_of b)
few_operands s b (x ∷ ss) vars stack h = absurd (omega arith)

pub many_operands : (s : State) (b : Builtin) (ss : List Source) (vars stack : List Value) → 4 ≤ length ss → on_many s (builtin_value b) (operands ss vars stack) ≡ stuck s
many_operands s b ss vars stack h = many_values s b (length ss) (operands ss vars stack) h (operands_length ss vars stack)
