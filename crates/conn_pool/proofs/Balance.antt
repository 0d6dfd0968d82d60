-- Each step keeps the rule of a queue.
use Rattle.std.specs.Prelude.{◌-◌}
use Rattle.std.proofs.Common.{◌≡◌, ◌≢◌, ℕ, zero, suc, ◌+◌, ◌<◌, ◌≤◌, List, [], ◌∷◌, ◌++◌, set, sum_by, sym, refl, ap, ◌∙◌, subst, ⊎_elim, arith}
use Rattle.std.proofs.lemmas.List.Sums.{sum_by-append}
use Rattle.std.specs.List.{AllByRecursion}
use mathlib.Core.Option.{some, some-ne-none, some-injective}
use lib.ListN.{get_elem?}
use Rattle.crossbeam_queue.specs.Fifo.{Pushes, Pops, Forks, Merges, Learns}
use Rattle.crossbeam_queue.proofs.Lists.{at_set, at_snoc}
use Rattle.conn_pool.specs.declared.hand.Hand.{Hand}
use Rattle.conn_pool.specs.declared.hand.Numbered.{Numbered}
use Rattle.conn_pool.specs.Hands.{hand, by_mark, IsEven, after_put, after_back, after_take, both, weigh, total, IdleIsEmpty, Balanced, Total}

module _ {C : Type 0} where
  pub weigh_append : (h : Numbered C → ℕ) (xs ys : List (Numbered C)) → weigh h (xs ++ ys) ≡ weigh h xs + weigh h ys
  weigh_append h [] ys = omega arith
  weigh_append h (x ∷ xs) ys = let r = weigh_append h xs ys in omega arith

  total_set : (f : Hand C → ℕ) (views : List (Hand C)) (port : ℕ) (v w : Hand C) → get_elem? views port ≡ some v → total f (set views port w) + f v ≡ total f views + f w
  total_set f [] port v w at = absurd (some-ne-none v (sym at))
  total_set f (u ∷ us) zero v w at = let same : f u ≡ f v = ap f (some-injective u v at) in omega arith
  total_set f (u ∷ us) (suc p) v w at = let r = total_set f us p v w at in omega arith

  total_snoc : (f : Hand C → ℕ) (views : List (Hand C)) (w : Hand C) → total f (views ++ w ∷ []) ≡ total f views + f w
  total_snoc f [] w = omega arith
  total_snoc f (u ∷ us) w = let r = total_snoc f us w in omega arith

  abbrev IsIdle : Hand C → Type 0
  IsIdle v = v.parts ≡ 0 → (v.put ≡ []) × (v.back ≡ []) × (v.taken ≡ [])

  idle_set : (views : List (Hand C)) (port : ℕ) (w : Hand C) → IsIdle w → IdleIsEmpty views → IdleIsEmpty (set views port w)
  idle_set views port w mine all j u e =
      ⊎_elim (λ (x : (j ≡ port) × (w ≡ u)). subst IsIdle x.1 mine) (λ (x : (j ≢ port) × (get_elem? views j ≡ some u)). all j u x.1) (at_set views port j w u e)

  idle_snoc : (views : List (Hand C)) (w : Hand C) → IsIdle w → IdleIsEmpty views → IdleIsEmpty (views ++ w ∷ [])
  idle_snoc views w mine all j u e =
      ⊎_elim (λ (x : get_elem? views j ≡ some u). all j u x) (λ (x : w ≡ u). subst IsIdle x mine) (at_snoc views w u j e)

  pub opens : Balanced {C = C} [] (hand 1024 [] [] [] ∷ [])
  opens = (refl, (λ h. refl), λ j u e. only j u e)
    where
      only : (j : ℕ) (u : Hand C) → get_elem? (hand 1024 [] [] [] ∷ []) j ≡ some u → IsIdle u
      only zero u e = subst IsIdle (some-injective (hand 1024 [] [] []) u e) (λ none. (refl, refl, refl))
      only (suc j) u e = absurd (some-ne-none u (sym e))

  pub puts : (n port : ℕ) (v : Hand C) (x : Numbered C) → 0 < v.parts → Pushes Balanced n port v x (λ w. w ≡ after_put v x)
  puts n port v x some_part items views room b at =
      let w = after_put v x in (
        w,
        (
          (let s = total_set (λ u. u.parts) views port v w at in let p = b.0 in omega arith),
          (λ h.
              let s = total_set (λ u. weigh h u.put + weigh h u.back) views port v w at in
              let t = total_set (λ u. weigh h u.taken) views port v w at in
              let p = b.1 h in
              let a = weigh_append h v.put (x ∷ []) in
              let c = weigh_append h items (x ∷ []) in
              omega arith),
          idle_set views port w (λ none. absurd (omega arith)) b.2,
        ),
        refl,
      )

  pub puts_back : (n port : ℕ) (v : Hand C) (x : Numbered C) → 0 < v.parts → Pushes Balanced n port v x (λ w. w ≡ after_back v x)
  puts_back n port v x some_part items views room b at =
      let w = after_back v x in (
        w,
        (
          (let s = total_set (λ u. u.parts) views port v w at in let p = b.0 in omega arith),
          (λ h.
              let s = total_set (λ u. weigh h u.put + weigh h u.back) views port v w at in
              let t = total_set (λ u. weigh h u.taken) views port v w at in
              let p = b.1 h in
              let a = weigh_append h v.back (x ∷ []) in
              let c = weigh_append h items (x ∷ []) in
              omega arith),
          idle_set views port w (λ none. absurd (omega arith)) b.2,
        ),
        refl,
      )

  pub takes : (port : ℕ) (v : Hand C) → 0 < v.parts → Pops Balanced port v (λ x w. w ≡ after_take v x)
  takes port v some_part x items views b at =
      let w = after_take v x in (
        w,
        (
          (let s = total_set (λ u. u.parts) views port v w at in let p = b.0 in omega arith),
          (λ h.
              let s = total_set (λ u. weigh h u.put + weigh h u.back) views port v w at in
              let t = total_set (λ u. weigh h u.taken) views port v w at in
              let p = b.1 h in
              let a = weigh_append h v.taken (x ∷ []) in
              omega arith),
          idle_set views port w (λ none. absurd (omega arith)) b.2,
        ),
        refl,
      )

  pub forks : (port : ℕ) (v : Hand C) → 1 < v.parts → Forks Balanced port v (hand (v.parts - 1) v.put v.back v.taken) (hand 1 [] [] [])
  forks port v more items views b at =
      let w = hand (v.parts - 1) v.put v.back v.taken in
      let r : Hand C = hand 1 [] [] [] in
      let vs = set views port w in (
        (let s = total_set (λ u. u.parts) views port v w at in let n = total_snoc (λ u. u.parts) vs r in let p = b.0 in omega arith),
        (λ h.
            let s = total_set (λ u. weigh h u.put + weigh h u.back) views port v w at in
            let t = total_set (λ u. weigh h u.taken) views port v w at in
            let m = total_snoc (λ u. weigh h u.put + weigh h u.back) vs r in
            let n = total_snoc (λ u. weigh h u.taken) vs r in
            let p = b.1 h in
            omega arith),
        idle_snoc vs r (λ none. (refl, refl, refl)) (idle_set views port w (λ none. absurd (omega arith)) b.2),
      )

  pub merges : (port : ℕ) (v : Hand C) (other : ℕ) (u : Hand C) → 0 < v.parts → Merges Balanced port v other u (both v u) (hand 0 [] [] [])
  merges port v other u some_part items views b at two at' =
      let w = both v u in
      let r : Hand C = hand 0 [] [] [] in
      let vs = set views port w in (
        (let s = total_set (λ y. y.parts) views port v w at in let n = total_set (λ y. y.parts) vs other u r at' in let p = b.0 in omega arith),
        (λ h.
            let s = total_set (λ y. weigh h y.put + weigh h y.back) views port v w at in
            let t = total_set (λ y. weigh h y.taken) views port v w at in
            let m = total_set (λ y. weigh h y.put + weigh h y.back) vs other u r at' in
            let n = total_set (λ y. weigh h y.taken) vs other u r at' in
            let p = b.1 h in
            let x = weigh_append h v.put u.put in
            let y = weigh_append h v.back u.back in
            let z = weigh_append h v.taken u.taken in
            omega arith),
        idle_set vs other r (λ none. (refl, refl, refl)) (idle_set views port w (λ none. absurd (omega arith)) b.2),
      )

  part_of_total : (f : Hand C → ℕ) (views : List (Hand C)) (port : ℕ) (v : Hand C) → get_elem? views port ≡ some v → f v ≤ total f views
  part_of_total f [] port v at = absurd (some-ne-none v (sym at))
  part_of_total f (u ∷ us) zero v at = let same : f u ≡ f v = ap f (some-injective u v at) in omega arith
  part_of_total f (u ∷ us) (suc p) v at = let r = part_of_total f us p v at in omega arith

  abbrev ZeroWhereIdle : (Hand C → ℕ) → List (Hand C) → Type 0
  ZeroWhereIdle f views = (j : ℕ) (u : Hand C) → get_elem? views j ≡ some u → u.parts ≡ 0 → f u ≡ 0

  none_total : (f : Hand C → ℕ) (views : List (Hand C)) → total (λ u. u.parts) views ≡ 0 → ZeroWhereIdle f views → total f views ≡ 0
  none_total f [] none idle = refl
  none_total f (u ∷ us) none idle =
      let here : f u ≡ 0 = idle 0 u refl (omega arith) in
      let rest : total f us ≡ 0 = none_total f us (omega arith) (λ j. idle (suc j)) in
      omega arith

  -- where one pass has all parts, a total is its own
  alone : (f : Hand C → ℕ) (views : List (Hand C)) (port : ℕ) (v : Hand C) → get_elem? views port ≡ some v → total (λ u. u.parts) views ≡ v.parts → ZeroWhereIdle f views → total f views ≡ f v
  alone f [] port v at all idle = absurd (some-ne-none v (sym at))
  alone f (u ∷ us) zero v at all idle =
      let same : f u ≡ f v = ap f (some-injective u v at) in
      let parts : u.parts ≡ v.parts = ap (λ y. y.parts) (some-injective u v at) in
      let rest : total f us ≡ 0 = none_total f us (omega arith) (λ j. idle (suc j)) in
      omega arith
  alone f (u ∷ us) (suc p) v at all idle =
      let most = part_of_total (λ y. y.parts) us p v at in
      let here : f u ≡ 0 = idle 0 u refl (omega arith) in
      let rest : total f us ≡ f v = alone f us p v at (omega arith) (λ j. idle (suc j)) in
      omega arith

  pub learns : (port : ℕ) (v : Hand C) → Learns Balanced port v (Total v)
  learns port v items views b at every h =
      let a = alone (λ u. weigh h u.put + weigh h u.back) views port v at (b.0 ∙ sym every) (λ j u e none. let i = b.2 j u e none in let x : weigh h u.put ≡ 0 = ap (weigh h) i.0 in let y : weigh h u.back ≡ 0 = ap (weigh h) i.1 in omega arith) in
      let c = alone (λ u. weigh h u.taken) views port v at (b.0 ∙ sym every) (λ j u e none. ap (weigh h) (b.2 j u e none).2) in
      let p = b.1 h in
      omega arith

  -- a connection was taken and kept, where what is kept weighs what was taken but for what was there before
  pub takes_one : (h : Numbered C → ℕ) (v w : Hand C) (x : Numbered C) (out room all : List (Numbered C)) (a b : ℕ) → w ≡ after_take v x → room ≡ out → all ≡ room ++ x ∷ []
      → weigh h out + a ≡ b + weigh h v.taken → weigh h all + a ≡ b + weigh h w.taken
  takes_one h v w x out room all a b took same pushed p =
      let t = ap (λ u. weigh h u.taken) took in
      let t' = weigh_append h v.taken (x ∷ []) in
      let o = ap (weigh h) pushed in
      let o' = weigh_append h room (x ∷ []) in
      let s = ap (weigh h) same in
      omega arith

module _ {C M : Type 0} (mark : C → M) where
  pub even_both : (w a w' a' : Hand C) → IsEven mark w a → IsEven mark w' a' → IsEven mark (both w w') (both a a')
  even_both w a w' a' e e' h =
      let k = by_mark mark h in
      let x = weigh_append k w.taken w'.taken in
      let y = weigh_append k w.back w'.back in
      let z = weigh_append k a.put a'.put in
      let p = e h in
      let q = e' h in
      omega arith

  -- a connection was taken and, with the same number and mark, put back or set aside
  pub even_back : (w a : Hand C) (x y : Numbered C) → x.number ≡ y.number → mark x.conn ≡ mark y.conn → IsEven mark w a → IsEven mark (after_back (after_take w x) y) a
  even_back w a x y number same e h =
      let k = by_mark mark h in
      let i = weigh_append k w.taken (x ∷ []) in
      let j = weigh_append k w.back (y ∷ []) in
      let p = e h in
      let q : k x ≡ k y = (λ i. h (number i) (same i)) in
      omega arith

  pub even_aside : (w a : Hand C) (x y : Numbered C) → x.number ≡ y.number → mark x.conn ≡ mark y.conn → IsEven mark w a → IsEven mark (after_take w x) (after_put a y)
  even_aside w a x y number same e h =
      let k = by_mark mark h in
      let i = weigh_append k w.taken (x ∷ []) in
      let j = weigh_append k a.put (y ∷ []) in
      let p = e h in
      let q : k x ≡ k y = (λ i. h (number i) (same i)) in
      omega arith

  -- what both queues held at the end is what was put
  pub closes : (w a : Hand C) (start first all : List (Numbered C)) → start ≡ [] → IsEven mark w a → (a.back ≡ []) × (a.taken ≡ [])
      → ((k : Numbered C → ℕ) → weigh k first + weigh k w.taken ≡ weigh k start + weigh k w.put + weigh k w.back)
      → ((k : Numbered C → ℕ) → weigh k all + weigh k a.taken ≡ weigh k first + weigh k a.put + weigh k a.back)
      → (h : ℕ → M → ℕ) → weigh (by_mark mark h) all ≡ weigh (by_mark mark h) w.put
  closes w a start first all none even unused one two h =
      let k = by_mark mark h in
      let e = even h in
      let s : weigh k start ≡ 0 = ap (weigh k) none in
      let b : weigh k a.back ≡ 0 = ap (weigh k) unused.0 in
      let t : weigh k a.taken ≡ 0 = ap (weigh k) unused.1 in
      let x = one k in
      let y = two k in
      omega arith

pub all_last : {X : Type 0} (P : X → Type 0) (xs ys : List X) (x : X) → ys ≡ xs ++ x ∷ [] → AllByRecursion P ys → AllByRecursion P xs × P x
all_last P xs ys x is all = cut xs (subst (AllByRecursion P) is all)
  where
    cut : (zs : List _) → AllByRecursion P (zs ++ x ∷ []) → AllByRecursion P zs × P x
    cut [] a = (tt, a.0)
    cut (z ∷ zs) a = let r = cut zs a.1 in ((a.0, r.0), r.1)

pub sum_last : {X : Type 0} (f : X → ℕ) (xs ys : List X) (x : X) → ys ≡ xs ++ x ∷ [] → f x + sum_by f xs ≡ sum_by f ys
sum_last f xs ys x is = let a = ap (sum_by f) is ∙ sum_by-append f xs (x ∷ []) in omega arith
