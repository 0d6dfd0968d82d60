-- Entries are in a total order, and keys with those behind them.
use Rattle.std.proofs.Common.{◌≡◌, ℕ, true, false, List, [], ◌∷◌, refl, sym, ap, ◌∙◌}
use Rattle.std.specs.Cmp.{IsTotalOrder}
use Rattle.std.specs.Cmp.Lexicographic.{nat_list_cmp_total}
use Rattle.std.specs.Ordering.{is_lt, ordering_reverse}
use Rattle.std.specs.declared.cmp.Ordering.{Ordering}
use Rattle.std.specs.declared.cmp.Ordering.TheVariants.{Less, Equal, Greater}
use Rattle.std.proofs.lemmas.Cmp.{then_total, on_total, nat_cmp_total}
use Rattle.cv_values.specs.Order.{text_cmp}
use Rattle.cv_docs.specs.Entries.{entry_cmp, AllAfter}
use Rattle.cv_docs.specs.declared.entry.IndexEntry.{IndexEntry}

pub entry_total : IsTotalOrder entry_cmp
entry_total = then_total (on_total (λ (e : IndexEntry). e.key) nat_list_cmp_total) (on_total (λ (e : IndexEntry). e.ts) nat_cmp_total)

pub is_less : (o : Ordering) → is_lt o ≡ true → o ≡ Less
is_less Less e = refl
is_less Equal e = cc
is_less Greater e = cc

pub turned : (a b : List ℕ) (o : Ordering) → text_cmp a b ≡ o → text_cmp b a ≡ ordering_reverse o
turned a b o e = nat_list_cmp_total.antisymm b a ∙ ap ordering_reverse e

-- each key of the list is at least k
abbrev pub AllFrom : List ℕ → List IndexEntry → Type 0
AllFrom k [] = Unit {0}
AllFrom k (x ∷ xs) = (is_lt (text_cmp x.key k) ≡ false) × AllFrom k xs

-- each key of the list is above k
abbrev pub AllAbove : List ℕ → List IndexEntry → Type 0
AllAbove k [] = Unit {0}
AllAbove k (x ∷ xs) = (text_cmp k x.key ≡ Less) × AllAbove k xs

behind : (x y : IndexEntry) (o : Ordering) → text_cmp x.key y.key ≡ o → is_lt (entry_cmp x y) ≡ true → is_lt (text_cmp y.key x.key) ≡ false
behind x y Less e h = ap is_lt (turned x.key y.key Less e)
behind x y Equal e h = ap is_lt (turned x.key y.key Equal e)
behind x y Greater e h = let f : false ≡ true = rw e at h in cc

pub from_after : (x : IndexEntry) (xs : List IndexEntry) → AllAfter x xs → AllFrom x.key xs
from_after x [] h = tt
from_after x (y ∷ ys) h = (behind x y (text_cmp x.key y.key) refl h.0, from_after x ys h.1)

-- what is below q is below all that is not
pub below_from : (p q r : List ℕ) (o : Ordering) → text_cmp r q ≡ o → is_lt o ≡ false → text_cmp p q ≡ Less → text_cmp p r ≡ Less
below_from p q r Less e n f = cc
below_from p q r Equal e n f = nat_list_cmp_total.antisymm p r ∙ ap ordering_reverse (nat_list_cmp_total.congr r q p e) ∙ sym (nat_list_cmp_total.antisymm p q) ∙ f
below_from p q r Greater e n f = nat_list_cmp_total.trans p q r f (turned r q Greater e)

pub above_from : (p q : List ℕ) (es : List IndexEntry) → text_cmp p q ≡ Less → AllFrom q es → AllAbove p es
above_from p q [] e h = tt
above_from p q (x ∷ xs) e h = (below_from p q x.key (text_cmp x.key q) refl h.0 e, above_from p q xs e h.1)

pub from_above : (k : List ℕ) (es : List IndexEntry) → AllAbove k es → AllFrom k es
from_above k [] h = tt
from_above k (x ∷ xs) h = (ap is_lt (turned k x.key Less h.0), from_above k xs h.1)
