-- Lists of views, of which one changes.
use Rattle.std.proofs.Common.{◌≡◌, ◌≢◌, ◌⊎◌, ℕ, zero, suc, ◌+◌, ◌<◌, ◌≤◌, List, [], ◌∷◌, ◌++◌, length, set, sym, refl, ap, ◌∙◌, subst, inl, inr, ⊎_elim, arith}
use mathlib.Core.Option.{some, some-ne-none, some-injective}
use mathlib.Core.List.{IsPrefix}
use lib.ListN.{get_elem?}
use Rattle.atomic_table.proofs.Lists.{at_set, at_snoc, set_else}
use Rattle.fn_tree.specs.History.{Entry}
use Rattle.fn_tree.specs.SyntaxTree.{ModuleTree}
use mathlib.Core.Logic.{dite}
use native.Mathlib.Decide.{ℕ_discrete}
use Rattle.turn_lock.specs.declared.view.Stage.TheVariants.{Spent}
use Rattle.turn_lock.specs.Views.{Owned, View}
use Rattle.turn_lock.specs.Rule.{Fits, Apart, Topped, Keeps, Stands, Rises, AllBegin}
use Rattle.turn_lock.proofs.Prefixes.{prefix_trans}

pub here : (views : List View) (id : ℕ) (v w : View) → get_elem? views id ≡ some v → get_elem? (set views id w) id ≡ some w
here [] id v w e = absurd (some-ne-none v (sym e))
here (x ∷ xs) zero v w e = refl
here (x ∷ xs) (suc i) v w e = here xs i v w e

-- what holds of the others and of the new view
pub at_all : (P : ℕ → View → Type 0) (views : List View) (id : ℕ) (w : View) → ((j : ℕ) (u : View) → j ≢ id → get_elem? views j ≡ some u → P j u) → P id w
    → (j : ℕ) (u : View) → get_elem? (set views id w) j ≡ some u → P j u
at_all P views id w others mine j u e =
    ⊎_elim
    (λ (x : (j ≡ id) × (w ≡ u)). subst (λ (y : ℕ × View). P y.0 y.1) (λ i. (sym x.0 i, x.1 i)) mine)
    (λ (x : (j ≢ id) × (get_elem? views j ≡ some u)). others j u x.0 x.1)
    (at_set views id j w u e)

pub fits_more : (log log' : List Entry) (v : View) → IsPrefix log log' → Fits log v → Fits log' v
fits_more log log' v p f = record { begins = prefix_trans v.seen log log' f.begins p; stands = f.stands; rises = f.rises; olds = f.olds }

-- the others keep no place of the new view's
abbrev pub Fresh : List View → View → View → Type 0
Fresh views v w = (p : ℕ) → Keeps p w.own → Keeps p v.own ⊎ ((j : ℕ) (u : View) → get_elem? views j ≡ some u → Keeps p u.own → ⊥)

fresh_apart : (views : List View) (id : ℕ) (v w : View) → get_elem? views id ≡ some v → Apart views → Fresh views v w → (j : ℕ) (b : View) → j ≢ id → get_elem? views j ≡ some b → (p : ℕ) → Keeps p w.own → Keeps p b.own → ⊥
fresh_apart views id v w at apart fresh j b ne e p kw kb =
    ⊎_elim (λ (k : Keeps p v.own). apart j id b v e at ne p kb k) (λ (none : (j : ℕ) (u : View) → get_elem? views j ≡ some u → Keeps p u.own → ⊥). none j b e kb) (fresh p kw)

pub apart_set : (views : List View) (id : ℕ) (v w : View) → get_elem? views id ≡ some v → Apart views → Fresh views v w → Apart (set views id w)
apart_set views id v w at apart fresh i j a b ea eb ne p ka kb =
    ⊎_elim
    (λ (x : (i ≡ id) × (w ≡ a)).
    ⊎_elim
    (λ (y : (j ≡ id) × (w ≡ b)). ne (x.0 ∙ sym y.0))
    (λ (y : (j ≢ id) × (get_elem? views j ≡ some b)). fresh_apart views id v w at apart fresh j b y.0 y.1 p (subst (λ (u : View). Keeps p u.own) (sym x.1) ka) kb)
    (at_set views id j w b eb))
    (λ (x : (i ≢ id) × (get_elem? views i ≡ some a)).
    ⊎_elim
    (λ (y : (j ≡ id) × (w ≡ b)). fresh_apart views id v w at apart fresh i a x.0 x.1 p (subst (λ (u : View). Keeps p u.own) (sym y.1) kb) ka)
    (λ (y : (j ≢ id) × (get_elem? views j ≡ some b)). apart i j a b x.1 y.1 ne p ka kb)
    (at_set views id j w b eb))
    (at_set views id i w a ea)

pub same_fresh : (views : List View) (v w : View) → w.own ≡ v.own → Fresh views v w
same_fresh views v w e p k = inl (subst (Keeps p) e k)

pub topped_set : (log : List Entry) (views : List View) (id : ℕ) (v w : View) → get_elem? views id ≡ some v → w.seen ≡ v.seen → w.stage ≢ Spent → Topped log views → Topped log (set views id w)
topped_set log views id v w at same live t =
    dite (ℕ_discrete t.0 id)
    (λ (e : t.0 ≡ id).
    let is : t.1 ≡ v = some-injective t.1 v (sym t.2 ∙ (ap (get_elem? views) e ∙ at)) in
    (id, w, here views id v w at, same ∙ (sym (ap (λ (u : View). u.seen) is) ∙ t.3), live))
    (λ (ne : t.0 ≢ id). (t.0, t.1, set_else views id t.0 w ne ∙ t.2, t.3, t.4))
