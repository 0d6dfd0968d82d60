-- What trees hold.
use Rattle.std.proofs.Common.{◌≡◌, ◌≢◌, ℕ, true, false, cond, ◌==◌, refl, sym, subst}
use Rattle.std.proofs.lemmas.Bool.{eqb-true, eq-eqb}
use Rattle.cv_ranges.specs.Held.{HasRead}
use Rattle.cv_ranges.specs.Laws.{EmptyHoldsNone, OneOwnerChanges, EqualAreHeld}
use Rattle.cv_ranges.proofs.Members.{none}

pub empty_holds_none : EmptyHoldsNone
empty_holds_none owner i = ((λ c. absurd (none (i, owner) c)), (λ c. absurd (none i c)))

pub one_owner_changes : OneOwnerChanges
one_owner_changes owner is old new reads holds has keeps other =
    (elim (other == owner) as (λ b. (other == owner) ≡ b → HasRead new other (cond b is (reads other))) [
      | true ↦ λ same. subst (λ (o : ℕ). HasRead new o is) (sym (eqb-true other owner same)) has
      | false ↦ λ apart i.
          let differs : other ≢ owner = λ e. let yes : (other == owner) ≡ true = eq-eqb other owner e in cc in
          ((λ c. (holds other i).0 ((keeps other differs i).0 c)), (λ c. (keeps other differs i).1 ((holds other i).1 c)))
    ]) refl

pub equal_are_held : EqualAreHeld
equal_are_held tree reads others holds equal owner = subst (HasRead tree owner) (sym (equal owner)) (holds owner)
