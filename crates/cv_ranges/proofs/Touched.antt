-- The owners that marks hit are those whose reads they touch.
use Rattle.std.proofs.Common.{◌≡◌, ℕ, ◌+◌, Bool, true, false, ◌||◌, ◌==◌, cond, inl, inr, List, [], ◌∷◌, ◌++◌, Some, None, Option, refl, sym, ap, ◌∙◌, subst}
use Rattle.std.specs.Prelude.{Contains, is_some}
use Rattle.std.specs.List.{position_from}
use Rattle.std.proofs.lemmas.Bool.{eqb-true, eq-eqb}
use Rattle.cv_keys.specs.declared.interval.Interval.{Interval}
use Rattle.cv_reads.specs.FirstTouch.{is_marked, first_interval, first_touch_from}
use Rattle.cv_reads.specs.declared.mark.Mark.{Mark}
use Rattle.range_tree.specs.Members.{OwnersAreHit, NoOthersAreHit}
use Rattle.range_tree.specs.Ranges.{Owned, owners_at}
use Rattle.cv_ranges.specs.Held.{Readings, HoldsReads}
use Rattle.cv_ranges.specs.Hits.{marked_owners, is_among}
use Rattle.cv_ranges.specs.Laws.{TouchedAreHit}
use Rattle.cv_ranges.proofs.Members.{first, behind, first_or_behind, none}

same : (a b : Bool) → (a ≡ true → b ≡ true) → (b ≡ true → a ≡ true) → a ≡ b
same true b f g = sym (f refl)
same false true f g = g refl
same false false f g = refl

among_in : (o : ℕ) (xs : List ℕ) → is_among o xs ≡ true → Contains xs o
among_in o [] e = cc
among_in o (x ∷ xs) e =
    (elim (x == o) as (λ b. (x == o) ≡ b → (b || is_among o xs) ≡ true → Contains (x ∷ xs) o) [
      | true ↦ λ here f. subst (Contains (x ∷ xs)) (eqb-true x o here) (first x xs)
      | false ↦ λ other f. behind x xs o (among_in o xs f)
    ]) refl e

in_among : (o : ℕ) (xs : List ℕ) → Contains xs o → is_among o xs ≡ true
in_among o [] c = absurd (none o c)
in_among o (x ∷ xs) c =
    elim (first_or_behind x xs o c) [
      | inl e ↦ ap (λ b. b || is_among o xs) (eq-eqb x o e)
      | inr d ↦ elim (x == o) as (λ b. (b || is_among o xs) ≡ true) [ true ↦ refl | false ↦ in_among o xs d ]
    ]

among_append : (o : ℕ) (xs ys : List ℕ) → is_among o (xs ++ ys) ≡ (is_among o xs || is_among o ys)
among_append o [] ys = refl
among_append o (x ∷ xs) ys = elim (x == o) as (λ b. (b || is_among o (xs ++ ys)) ≡ ((b || is_among o xs) || is_among o ys)) [ true ↦ refl | false ↦ among_append o xs ys ]

module _ {X : Type 0} (p : X → Bool) where
  found : (k : ℕ) (xs : List X) → is_some (position_from p k xs) ≡ true → (x : X) × Contains xs x × (p x ≡ true)
  found k [] e = cc
  found k (x ∷ xs) e =
      (elim (p x) as (λ b. p x ≡ b → is_some (cond b (Some k) (position_from p (k + 1) xs)) ≡ true → (y : X) × Contains (x ∷ xs) y × (p y ≡ true)) [
        | true ↦ λ here f. (x, first x xs, here)
        | false ↦ λ other f. let r = found (k + 1) xs f in (r.0, behind x xs r.0 r.1, r.2)
      ]) refl e

  finds : (k : ℕ) (xs : List X) (y : X) → Contains xs y → p y ≡ true → is_some (position_from p k xs) ≡ true
  finds k [] y c h = absurd (none y c)
  finds k (x ∷ xs) y c h =
      (elim (p x) as (λ b. p x ≡ b → is_some (cond b (Some k) (position_from p (k + 1) xs)) ≡ true) [
        | true ↦ λ here. refl
        | false ↦ λ other. elim (first_or_behind x xs y c) [
          | inl e ↦ let at_y : p y ≡ false = subst (λ z. p z ≡ false) e other in cc
          | inr d ↦ finds (k + 1) xs y d h
        ]
      ]) refl

touch_of : (k : ℕ) (m : Mark) (marks : List Mark) (is : List Interval)
    → is_some (first_touch_from k (m ∷ marks) is) ≡ (is_some (first_interval m is) || is_some (first_touch_from (k + 1) marks is))
touch_of k m marks is =
    elim (first_interval m is) as (λ (o : Option ℕ). is_some (elim o [ Some range ↦ Some (k, range) | None ↦ first_touch_from (k + 1) marks is ]) ≡ (is_some o || is_some (first_touch_from (k + 1) marks is))) [
      | Some range ↦ refl
      | None ↦ refl
    ]

module _ (hit : OwnersAreHit) (spared : NoOthersAreHit) (tree : List Owned) (reads : Readings) (holds : HoldsReads tree reads) (owner : ℕ) where
  one_mark : (m : Mark) → is_among owner (owners_at m.table m.index m.key tree) ≡ is_some (first_interval m (reads owner))
  one_mark m =
      same _ _
      (λ e.
      let r = spared m.table m.index m.key owner tree (among_in owner _ e) in
      let i : Interval = r.0.0 in
      let there : Contains tree (i, owner) = subst (λ (o : ℕ). Contains tree (i, o)) r.3 r.1 in
      finds (is_marked m) 0 (reads owner) i ((holds owner i).0 there) r.2)
      (λ e. let r = found (is_marked m) 0 (reads owner) e in in_among owner _ (hit m.table m.index m.key (r.0, owner) tree ((holds owner r.0).1 r.1) r.2))

  each_mark : (k : ℕ) (marks : List Mark) → is_among owner (marked_owners marks tree) ≡ is_some (first_touch_from k marks (reads owner))
  each_mark k [] = refl
  each_mark k (m ∷ marks) =
      among_append owner (owners_at m.table m.index m.key tree) (marked_owners marks tree)
      ∙ (ap (λ b. b || is_among owner (marked_owners marks tree)) (one_mark m)
      ∙ (ap (λ b. is_some (first_interval m (reads owner)) || b) (each_mark (k + 1) marks)
      ∙ sym (touch_of k m marks (reads owner))))

pub touched_are_hit : OwnersAreHit → NoOthersAreHit → TouchedAreHit
touched_are_hit hit spared tree reads marks owner holds = each_mark hit spared tree reads holds owner 0 marks
