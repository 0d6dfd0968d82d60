-- How many integers there are in a range.
use Rattle.std.proofs.Common.{◌≡◌, suc, ℤ, pos, negsuc, ◌+ℤ◌, ◌-ℤ◌, ◌<ℤ◌, ◌≤ℤ◌, min, List, [], ◌∷◌, ◌++◌, ap, sym, ◌∙◌, append_assoc, arith}
use Rattle.std.proofs.lemmas.Int.{ints}
use Rattle.std.specs.Prelude.{unsigned_abs}
use borrow.Author.Differences.{up, down}
use Rattle.cv_values.specs.Value.{Value, int}
use Rattle.fn_ops.specs.Operations.{count_of, integers}

one_part : (z : ℤ) → (count_of z ≡ up z) × (min (up z) (down z) ≡ 0)
one_part (pos n) = (omega arith, omega arith)
one_part (negsuc n) = (omega arith, omega arith)

pub count_more : (n j : ℤ) → n <ℤ j → count_of (j -ℤ n) ≡ suc (count_of (j -ℤ (n +ℤ pos 1)))
count_more n j h = omega (arith, ints, one_part (j -ℤ n), one_part (j -ℤ (n +ℤ pos 1)))

pub count_none : (n j : ℤ) → j ≤ℤ n → count_of (j -ℤ n) ≡ 0
count_none n j h = omega (arith, ints, one_part (j -ℤ n))

pub count_is : (n j : ℤ) → n <ℤ j → unsigned_abs (j -ℤ n) ≡ count_of (j -ℤ n)
count_is n j h = omega (arith, ints, one_part (j -ℤ n))

pub integers_more : (n j : ℤ) → n <ℤ j → integers n (count_of (j -ℤ n)) ≡ int n ∷ integers (n +ℤ pos 1) (count_of (j -ℤ (n +ℤ pos 1)))
integers_more n j h = ap (integers n) (count_more n j h)

pub integers_none : (n j : ℤ) → j ≤ℤ n → integers n (count_of (j -ℤ n)) ≡ []
integers_none n j h = ap (integers n) (count_none n j h)

pub ruleset counts = (count_is, count_none, integers_more, integers_none)

-- one more integer is put behind those that are there
pub one_more : (vs all new : List Value) (j n m : ℤ) → n <ℤ j → m ≡ n +ℤ pos 1 → new ≡ vs ++ int n ∷ [] → vs ++ integers n (count_of (j -ℤ n)) ≡ all → new ++ integers m (count_of (j -ℤ m)) ≡ all
one_more vs all new j n m h e put so_far =
    ap (λ l. l ++ integers m (count_of (j -ℤ m))) put
    ∙ ap (λ (z : ℤ). (vs ++ int n ∷ []) ++ integers z (count_of (j -ℤ z))) e
    ∙ append_assoc vs (int n ∷ []) _
    ∙ ap (λ l. vs ++ l) (sym (integers_more n j h)) ∙ so_far
