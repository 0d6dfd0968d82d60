-- The rest of a list from a place on.
use Rattle.std.proofs.Common.{◌≡◌, ℕ, suc, ◌+◌, ◌<◌, List, ◌∷◌, ◌++◌, [], length, drop, take, get_or, sym, ap, ◌∙◌, add-one}
use Rattle.std.proofs.Math.Seq.{drop-cons, take-suc}
use Rattle.std.specs.List.{AllByRecursion}

pub from_place : {A : Type 0} (xs : List A) (at : ℕ) (x : A) → at < length xs → x ≡ get_or xs at x → drop at xs ≡ x ∷ drop (at + 1) xs
from_place xs at x h e = drop-cons xs at x h ∙ ap (λ y. y ∷ drop (suc at) xs) (sym e) ∙ ap (λ (n : ℕ). x ∷ drop n xs) (sym (add-one at))

-- the front up to a place and the item there
pub to_place : {A : Type 0} (xs : List A) (at : ℕ) (x : A) → at < length xs → x ≡ get_or xs at x → take (at + 1) xs ≡ take at xs ++ x ∷ []
to_place xs at x h e = ap (λ (n : ℕ). take n xs) (add-one at) ∙ take-suc xs at x h ∙ ap (λ y. take at xs ++ y ∷ []) (sym e)

pub all_append : {A : Type 0} (P : A → Type 0) (xs ys : List A) → AllByRecursion P xs → AllByRecursion P ys → AllByRecursion P (xs ++ ys)
all_append P [] ys h k = k
all_append P (x ∷ xs) ys h k = (h.0, all_append P xs ys h.1 k)
