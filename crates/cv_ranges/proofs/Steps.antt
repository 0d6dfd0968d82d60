-- The steps of what goes through a read set, interval by interval.
use Rattle.std.proofs.Common.{◌≡◌, ℕ, zero, suc, ◌+◌, ◌≤◌, true, false, cond, ◌==◌, ◌⊎◌, inl, inr, List, [], ◌∷◌, ◌++◌, length, take, Some, Option, refl, sym, ap, ◌∙◌, subst, arith, add-one}
use Rattle.std.specs.Prelude.{◌↔◌, Contains, slice_get}
use Rattle.std.specs.Ordering.{is_eq}
use Rattle.std.proofs.lemmas.Bool.{eqb-true, eq-eqb}
use Rattle.std.proofs.lemmas.List.Elements.{Contains-append_left, Contains-append_right, Contains-append_cases}
use Rattle.cv_keys.specs.declared.interval.Interval.{Interval}
use Rattle.range_tree.specs.Ranges.{Owned, owned_cmp, IsAbsent, inserted, removed}
use Rattle.range_tree.specs.Members.{InsertedIsThere, InsertedKeepsOthers, InsertedAddsNoOther, RemovedAddsNone}
use Rattle.range_tree.proofs.Removed.{equal_same}
use Rattle.cv_ranges.specs.Held.{none_read, with_reads, HasRead, HoldsReads, KeepsOthers}
use Rattle.cv_ranges.proofs.Lengths.{length_inserted}
use Rattle.cv_ranges.proofs.Members.{first, behind, first_or_behind, none}

module _ {X : Type 0} where
  same_item : (x y : X) → ◌≡◌ {A = Option X} (Some x) (Some y) → x ≡ y
  same_item x y e = cc

  taken : (xs : List X) (k : ℕ) (x : X) → slice_get xs k ≡ Some x → take (suc k) xs ≡ take k xs ++ x ∷ []
  taken [] k x e = cc
  taken (y ∷ ys) zero x e = ap (λ z. z ∷ []) (same_item y x e)
  taken (y ∷ ys) (suc k) x e = ap (λ zs. y ∷ zs) (taken ys k x e)

  more : (xs : List X) (k : ℕ) (x : X) → slice_get xs k ≡ Some x → take (k + 1) xs ≡ take k xs ++ x ∷ []
  more xs k x e = rw add-one (taken xs k x e)

  -- the next one is the one more that was taken
  pub next_taken : (xs : List X) (k : ℕ) (x : X) → slice_get xs k ≡ Some x → Contains (take (k + 1) xs) x
  next_taken xs k x e = subst (λ (ys : List X). Contains ys x) (sym (more xs k x e)) (Contains-append_right (take k xs) (x ∷ []) x (first x []))

  pub still_taken : (xs : List X) (k : ℕ) (x y : X) → slice_get xs k ≡ Some x → Contains (take k xs) y → Contains (take (k + 1) xs) y
  still_taken xs k x y e c = subst (λ (ys : List X). Contains ys y) (sym (more xs k x e)) (Contains-append_left (take k xs) (x ∷ []) y c)

  pub taken_cases : (xs : List X) (k : ℕ) (x y : X) → slice_get xs k ≡ Some x → Contains (take (k + 1) xs) y → (x ≡ y) ⊎ Contains (take k xs) y
  taken_cases xs k x y e c =
      elim (Contains-append_cases (take k xs) (x ∷ []) y (subst (λ (ys : List X). Contains ys y) (more xs k x e) c)) [
        | inl d ↦ inr d
        | inr d ↦ elim (first_or_behind x [] y d) [ inl same ↦ inl same | inr d0 ↦ absurd (none y d0) ]
      ]

  at_place : (xs : List X) (k : ℕ) (x : X) → slice_get xs k ≡ Some x → Contains xs x
  at_place [] k x e = cc
  at_place (y ∷ ys) zero x e = subst (Contains (y ∷ ys)) (same_item y x e) (first y ys)
  at_place (y ∷ ys) (suc k) x e = behind y ys x (at_place ys k x e)

  -- each that was taken is in the list
  pub taken_in : (k : ℕ) (xs : List X) (x : X) → Contains (take k xs) x → Contains xs x
  taken_in zero xs x c = absurd (none x c)
  taken_in (suc k) [] x c = c
  taken_in (suc k) (y ∷ ys) x c = elim (first_or_behind y (take k ys) x c) [ inl e ↦ subst (Contains (y ∷ ys)) e (first y ys) | inr d ↦ behind y ys x (taken_in k ys x d) ]

  pub nth_in : (xs : List X) (k : ℕ) (x : X) → slice_get xs k ≡ Some x → Contains xs x
  nth_in xs k x e = at_place xs k x e

pub absent_of : (x : Owned) (xs : List Owned) → (Contains xs x → ⊥) → IsAbsent x xs
absent_of x [] n = tt
absent_of x (y ∷ ys) n = ((λ e. n (subst (Contains (y ∷ ys)) (sym e) (first y ys))), absent_of x ys (λ c. n (behind y ys x c)))

pub not_there : (x : Owned) (xs : List Owned) → IsAbsent x xs → Contains xs x → ⊥
not_there x [] a c = none x c
not_there x (y ∷ ys) a c = elim (first_or_behind y ys x c) [ inl e ↦ a.0 (sym e) | inr d ↦ not_there x ys a.1 d ]

-- what was there is the one taken out, or still there
pub removed_or : (x y : Owned) (xs : List Owned) → Contains xs y → (x ≡ y) ⊎ Contains (removed x xs) y
removed_or x y [] c = absurd (none y c)
removed_or x y (z ∷ zs) c =
    (elim (is_eq (owned_cmp x z)) as (λ b. is_eq (owned_cmp x z) ≡ b → (x ≡ y) ⊎ Contains (cond b zs (z ∷ removed x zs)) y) [
      | true ↦ λ same. elim (first_or_behind z zs y c) [ inl e ↦ inl (equal_same x z (owned_cmp x z) refl same ∙ e) | inr d ↦ inr d ]
      | false ↦ λ other. elim (first_or_behind z zs y c) [
        | inl e ↦ inr (subst (Contains (z ∷ removed x zs)) e (first z (removed x zs)))
        | inr d ↦ elim (removed_or x y zs d) [ inl e ↦ inl e | inr f ↦ inr (behind z (removed x zs) y f) ]
      ]
    ]) refl

interval_same : (i j : Interval) (o p : ℕ) → ◌≡◌ {A = Owned} (i, o) (j, p) → i ≡ j
interval_same i j o p e = ap (λ (x : Owned). x.0) e

owner_same : (i j : Interval) (o p : ℕ) → ◌≡◌ {A = Owned} (i, o) (j, p) → o ≡ p
owner_same i j o p e = ap (λ (x : Owned). x.1) e

pair_same : (i j : Interval) (o : ℕ) → i ≡ j → ◌≡◌ {A = Owned} (i, o) (j, o)
pair_same i j o e = ap (λ (k : Interval). let x : Owned = (k, o) in x) e

-- ---- making nodes

-- the nodes of the first k reads
pub record Makes (owner : ℕ) (is : List Interval) (k : ℕ) (nodes : List Owned) : Type 0 where
  pub length : length nodes ≤ k
  pub own : (other : ℕ) (i : Interval) → Contains nodes (i, other) → (other ≡ owner) × Contains (take k is) i
  pub all : (i : Interval) → Contains (take k is) i → Contains nodes (i, owner)

pub makes_none : (owner : ℕ) (is : List Interval) → Makes owner is 0 []
makes_none owner is = record {
  length = omega arith;
  own = λ other i c. absurd (none (i, other) c);
  all = λ i c. absurd (none i c);
}

pub makes_more : (owner : ℕ) (is : List Interval) (k : ℕ) (i : Interval) (old new : List Owned) → slice_get is k ≡ Some i
    → ((x : Owned) → (Contains new x ↔ (((i, owner) ≡ x) ⊎ Contains old x))) → length new ≤ length old + 1 → Makes owner is k old → Makes owner is (k + 1) new
makes_more owner is k i old new at members long m = record {
  length = omega (arith, m.length);
  own = λ other j c. elim ((members (j, other)).0 c) [
    | inl e ↦ (sym (owner_same i j owner other e), subst (Contains (take (k + 1) is)) (interval_same i j owner other e) (next_taken is k i at))
    | inr d ↦ let o = m.own other j d in (o.0, still_taken is k i j at o.1)
  ];
  all = λ j c. (members (j, owner)).1 (elim (taken_cases is k i j at c) [ inl e ↦ inl (pair_same i j owner e) | inr d ↦ inr (m.all j d) ]);
}

pub made_own : (owner : ℕ) (is : List Interval) (nodes : List Owned) → Makes owner is (length is) nodes → take (length is) is ≡ is → HasRead nodes owner is
made_own owner is nodes m whole i = (
  (λ c. subst (λ (is' : List Interval). Contains is' i) whole (m.own owner i c).1),
  (λ c. m.all i (subst (λ (is' : List Interval). Contains is' i) (sym whole) c)),
)

pub made_others : (owner : ℕ) (is : List Interval) (nodes : List Owned) → Makes owner is (length is) nodes → KeepsOthers owner [] nodes
made_others owner is nodes m other n i = ((λ c. absurd (n (m.own other i c).0)), (λ c. absurd (none (i, other) c)))

-- ---- putting nodes

-- the first k reads were put, and the nodes of the others stand ready
pub record Puts (owner : ℕ) (is : List Interval) (k : ℕ) (start nodes tree : List Owned) : Type 0 where
  pub length : length tree ≤ length start + k
  pub apart : (i : Interval) → Contains nodes (i, owner) → Contains (take k is) i → ⊥
  pub rest : (i : Interval) → Contains is i → Contains nodes (i, owner) ⊎ Contains (take k is) i
  pub put : HasRead tree owner (take k is)
  pub others : KeepsOthers owner start tree

pub puts_none : (owner : ℕ) (is : List Interval) (start nodes : List Owned) → HasRead nodes owner is → HasRead start owner [] → Puts owner is 0 start nodes start
puts_none owner is start nodes has apart = record {
  length = omega arith;
  apart = λ i c d. none i d;
  rest = λ i c. inl ((has i).1 c);
  put = apart;
  others = λ other n i. ((λ c. c), (λ c. c));
}

pub puts_fresh : (owner : ℕ) (is : List Interval) (k : ℕ) (i : Interval) (start nodes tree : List Owned) → Puts owner is k start nodes tree → Contains nodes (i, owner) → IsAbsent (i, owner) tree
puts_fresh owner is k i start nodes tree p c = absent_of (i, owner) tree (λ d. p.apart i c ((p.put i).0 d))

module _ (owner : ℕ) (is : List Interval) (k : ℕ) (i : Interval) (start nodes tree : List Owned) (at : slice_get is k ≡ Some i) (p : Puts owner is k start nodes tree) where
  -- there was no node of it any more
  pub puts_again : IsAbsent (i, owner) nodes → RemovedAddsNone → Puts owner is (k + 1) start (removed (i, owner) nodes) tree
  puts_again gone fewer = record {
    length = omega (arith, p.length);
    apart = λ j c d. let was = fewer (i, owner) (j, owner) nodes c in elim (taken_cases is k i j at d) [
      | inl e ↦ not_there (i, owner) nodes gone (subst (λ (x : Interval). Contains nodes (x, owner)) (sym e) was)
      | inr f ↦ p.apart j was f
    ];
    rest = λ j c. elim (p.rest j c) [
      | inl d ↦ elim (removed_or (i, owner) (j, owner) nodes d) [
        | inl e ↦ inr (subst (Contains (take (k + 1) is)) (interval_same i j owner owner e) (next_taken is k i at))
        | inr f ↦ inl f
      ]
      | inr d ↦ inr (still_taken is k i j at d)
    ];
    put = λ j. (
      (λ c. still_taken is k i j at ((p.put j).0 c)),
      (λ c. (p.put j).1 (elim (taken_cases is k i j at c) [
        | inl e ↦ subst (Contains (take k is)) e (elim (p.rest i (nth_in is k i at)) [ inl d ↦ absurd (not_there (i, owner) nodes gone d) | inr d ↦ d ])
        | inr d ↦ d
      ])),
    );
    others = p.others;
  }

  -- its node was put
  pub puts_more : InsertedIsThere → InsertedKeepsOthers → InsertedAddsNoOther → RemovedAddsNone → IsAbsent (i, owner) (removed (i, owner) nodes)
      → Puts owner is (k + 1) start (removed (i, owner) nodes) (inserted (i, owner) tree)
  puts_more there stays alone fewer gone = record {
    length = omega (arith, p.length, length_inserted (i, owner) tree);
    apart = λ j c d. elim (taken_cases is k i j at d) [
      | inl e ↦ not_there (i, owner) (removed (i, owner) nodes) gone (subst (λ (x : Interval). Contains (removed (i, owner) nodes) (x, owner)) (sym e) c)
      | inr f ↦ p.apart j (fewer (i, owner) (j, owner) nodes c) f
    ];
    rest = λ j c. elim (p.rest j c) [
      | inl d ↦ elim (removed_or (i, owner) (j, owner) nodes d) [
        | inl e ↦ inr (subst (Contains (take (k + 1) is)) (interval_same i j owner owner e) (next_taken is k i at))
        | inr f ↦ inl f
      ]
      | inr d ↦ inr (still_taken is k i j at d)
    ];
    put = λ j. (
      (λ c. elim (alone (i, owner) (j, owner) tree c) [
        | inl e ↦ subst (Contains (take (k + 1) is)) (interval_same i j owner owner e) (next_taken is k i at)
        | inr d ↦ still_taken is k i j at ((p.put j).0 d)
      ]),
      (λ c. elim (taken_cases is k i j at c) [
        | inl e ↦ subst (λ (x : Interval). Contains (inserted (i, owner) tree) (x, owner)) e (there (i, owner) tree)
        | inr d ↦ stays (i, owner) (j, owner) tree ((p.put j).1 d)
      ]),
    );
    others = λ other n j. (
      (λ c. elim (alone (i, owner) (j, other) tree c) [
        | inl e ↦ absurd (n (sym (owner_same i j owner other e)))
        | inr d ↦ (p.others other n j).0 d
      ]),
      (λ c. stays (i, owner) (j, other) tree ((p.others other n j).1 c)),
    );
  }

-- ---- taking nodes out

-- the nodes of the first k reads were taken out
pub record Takes (owner : ℕ) (is : List Interval) (k : ℕ) (start tree : List Owned) : Type 0 where
  pub length : length tree ≤ length start
  pub left : (i : Interval) → Contains tree (i, owner) → Contains is i × (Contains (take k is) i → ⊥)
  pub others : KeepsOthers owner start tree

pub takes_none : (owner : ℕ) (is : List Interval) (start : List Owned) → HasRead start owner is → Takes owner is 0 start start
takes_none owner is start has = record {
  length = omega arith;
  left = λ i c. ((has i).0 c, (λ d. none i d));
  others = λ other n i. ((λ c. c), (λ c. c));
}

pub takes_more : (owner : ℕ) (is : List Interval) (k : ℕ) (i : Interval) (start tree : List Owned) → slice_get is k ≡ Some i → RemovedAddsNone → IsAbsent (i, owner) (removed (i, owner) tree)
    → length (removed (i, owner) tree) ≤ length tree → Takes owner is k start tree → Takes owner is (k + 1) start (removed (i, owner) tree)
takes_more owner is k i start tree at fewer gone long t = record {
  length = omega (arith, long, t.length);
  left = λ j c.
      let was = t.left j (fewer (i, owner) (j, owner) tree c) in (
        was.0,
        (λ d. elim (taken_cases is k i j at d) [
          | inl e ↦ not_there (i, owner) (removed (i, owner) tree) gone (subst (λ (x : Interval). Contains (removed (i, owner) tree) (x, owner)) (sym e) c)
          | inr f ↦ was.1 f
        ]),
      );
  others = λ other n j. (
    (λ c. (t.others other n j).0 (fewer (i, owner) (j, other) tree c)),
    (λ c. elim (removed_or (i, owner) (j, other) tree ((t.others other n j).1 c)) [
      | inl e ↦ absurd (n (sym (owner_same i j owner other e)))
      | inr d ↦ d
    ]),
  );
}

pub taken_out : (owner : ℕ) (is : List Interval) (start tree : List Owned) → take (length is) is ≡ is → Takes owner is (length is) start tree → HasRead tree owner []
taken_out owner is start tree whole t i =
    ((λ c. let l = t.left i c in absurd (l.1 (subst (λ (is' : List Interval). Contains is' i) (sym whole) l.0))), (λ c. absurd (none i c)))

-- one that is put in for an equal one, or as a new one
pub added : InsertedIsThere → InsertedKeepsOthers → InsertedAddsNoOther → RemovedAddsNone → (n m : Owned) (old mid new : List Owned) → m ≡ n → mid ≡ removed n old → new ≡ inserted m mid
    → (x : Owned) → (Contains new x ↔ ((n ≡ x) ⊎ Contains old x))
added there stays alone fewer n m old mid new same out put x =
    subst (λ (ts : List Owned). Contains ts x ↔ ((n ≡ x) ⊎ Contains old x)) (sym (put ∙ (λ i. inserted (same i) (out i)))) (
      (λ c. elim (alone n x (removed n old) c) [ inl e ↦ inl e | inr d ↦ inr (fewer n x old d) ]),
      (λ c. elim c [
        | inl e ↦ subst (Contains (inserted n (removed n old))) e (there n (removed n old))
        | inr d ↦ elim (removed_or n x old d) [
          | inl e ↦ subst (Contains (inserted n (removed n old))) e (there n (removed n old))
          | inr f ↦ stays n x (removed n old) f
        ]
      ]),
    )
