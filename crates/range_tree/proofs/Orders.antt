-- Points, and intervals with owners, are in a total order.
use Rattle.std.proofs.Common.{◌≡◌, true, false, refl, sym, ap, ◌∙◌}
use Rattle.std.specs.Cmp.{IsTotalOrder}
use Rattle.std.specs.Cmp.Lexicographic.{nat_list_cmp_total}
use Rattle.std.specs.Ordering.{is_lt, ordering_reverse}
use Rattle.std.specs.declared.cmp.Ordering.{Ordering}
use Rattle.std.specs.declared.cmp.Ordering.TheVariants.{Less, Equal, Greater}
use Rattle.std.proofs.lemmas.Cmp.{then_total, on_total, nat_cmp_total}
use Rattle.range_tree.specs.Points.{Point, point_cmp, point_lt, low}
use Rattle.range_tree.specs.Ranges.{Owned, owned_cmp, owned_lt}

pub total : IsTotalOrder point_cmp
total = then_total (then_total (on_total (λ (p : Point). p.0) nat_cmp_total) (on_total (λ (p : Point). p.1) nat_cmp_total)) (on_total (λ (p : Point). p.2) nat_list_cmp_total)

pub is_less : (o : Ordering) → is_lt o ≡ true → o ≡ Less
is_less Less e = refl
is_less Equal e = cc
is_less Greater e = cc

pub lt_trans : (p q r : Point) → point_lt p q ≡ true → point_lt q r ≡ true → point_lt p r ≡ true
lt_trans p q r e f = ap is_lt (total.trans p q r (is_less (point_cmp p q) e) (is_less (point_cmp q r) f))

cotrans : (p q r : Point) (o : Ordering) → point_cmp r q ≡ o → is_lt o ≡ false → point_cmp p q ≡ Less → point_cmp p r ≡ Less
cotrans p q r Less e n f = cc
cotrans p q r Equal e n f = total.antisymm p r ∙ ap ordering_reverse (total.congr r q p e) ∙ sym (total.antisymm p q) ∙ f
cotrans p q r Greater e n f = total.trans p q r f (total.antisymm q r ∙ ap ordering_reverse e)

-- what is below q is below all that is not
pub lt_cotrans : (p q r : Point) → point_lt p q ≡ true → point_lt r q ≡ false → point_lt p r ≡ true
lt_cotrans p q r e f = ap is_lt (cotrans p q r (point_cmp r q) refl f (is_less (point_cmp p q) e))

pub owned_total : IsTotalOrder owned_cmp
owned_total = then_total (then_total (on_total (λ (i : Owned). low i.0) total) (on_total (λ (i : Owned). i.0.hi) nat_list_cmp_total)) (on_total (λ (i : Owned). i.1) nat_cmp_total)

pub owned_trans : (x y z : Owned) → owned_lt x y ≡ true → owned_lt y z ≡ true → owned_lt x z ≡ true
owned_trans x y z e f = ap is_lt (owned_total.trans x y z (is_less (owned_cmp x y) e) (is_less (owned_cmp y z) f))
