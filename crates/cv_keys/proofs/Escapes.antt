-- Escaped bytes, with anything behind them, go by the bytes.
use Rattle.std.proofs.Common.{◌≡◌, ℕ, zero, suc, List, [], ◌∷◌, ◌++◌, refl, ap, sym, ◌∙◌}
use Rattle.std.specs.Ordering.{nat_cmp, ordering_then}
use Rattle.cv_values.specs.Order.{text_cmp}
use Rattle.cv_keys.specs.KeyBytes.{escaped}
use Rattle.cv_keys.proofs.Orders.{then_assoc, zero_below, above_zero}

pub escaped_cmp : (s t xs ys : List ℕ) → text_cmp (escaped s ++ xs) (escaped t ++ ys) ≡ ordering_then (text_cmp s t) (text_cmp xs ys)
escaped_cmp [] [] xs ys = refl
escaped_cmp [] (zero ∷ t) xs ys = refl
escaped_cmp [] (suc b ∷ t) xs ys = rw (zero_below b)
escaped_cmp (zero ∷ s) [] xs ys = refl
escaped_cmp (suc a ∷ s) [] xs ys = rw (above_zero a)
escaped_cmp (zero ∷ s) (zero ∷ t) xs ys = escaped_cmp s t xs ys
escaped_cmp (zero ∷ s) (suc b ∷ t) xs ys = rw (zero_below b)
escaped_cmp (suc a ∷ s) (zero ∷ t) xs ys = rw (above_zero a)
escaped_cmp (suc a ∷ s) (suc b ∷ t) xs ys =
    ap (ordering_then (nat_cmp (suc a) (suc b))) (escaped_cmp s t xs ys) ∙ sym (then_assoc (nat_cmp (suc a) (suc b)) (text_cmp s t) (text_cmp xs ys))
