-- Changes that are made one after the other.
use Rattle.std.proofs.Common.{◌≡◌, ℕ, suc, ◌+◌, ◌<◌, ◌≤◌, Bool, true, false, cond, List, [], ◌∷◌, length, refl, sym, ap, subst, arith}
use Rattle.std.specs.Prelude.{◌==◌}
use Rattle.std.specs.List.{AllByRecursion}
use Rattle.std.proofs.lemmas.Bool.{and_from, eq-eqb}
use Rattle.cv_docs.specs.Entries.{AllEarlier, inserted}
use Rattle.cv_docs.specs.History.{with_all, AreAllowed}
use Rattle.cv_docs.specs.IndexRows.{IndexRows}
use Rattle.cv_core.specs.Changes.{is_at, changes_at, entry_of, entries_of}
use Rattle.cv_core.specs.Versioned.{entries_at, spare_at}
use Rattle.cv_core.specs.declared.change.Change.{Change}

-- the changes have room
abbrev pub HasRooms : List Change → List (List IndexRows) → Type 0
HasRooms cs tables = (table index : ℕ) → length (changes_at table index cs) ≤ spare_at table index tables

-- and they are allowed
abbrev pub AllAllowed : (ts : ℕ) → List Change → List (List IndexRows) → Type 0
AllAllowed ts cs tables = (table index : ℕ) → AreAllowed (entries_of ts (changes_at table index cs)) (entries_at table index tables)

own : (c : Change) → is_at c.table c.index c ≡ true
own c = and_from (c.table == c.table) (c.index == c.index) (eq-eqb c.table c.table refl) (eq-eqb c.index c.index refl)

first_is : (c : Change) (cs : List Change) → changes_at c.table c.index (c ∷ cs) ≡ c ∷ changes_at c.table c.index cs
first_is c cs = ap (λ b. cond b (c ∷ changes_at c.table c.index cs) (changes_at c.table c.index cs)) (own c)

module _ (ts : ℕ) (c : Change) (cs : List Change) (tables : List (List IndexRows)) where
  pub first_room : HasRooms (c ∷ cs) tables → 0 < spare_at c.table c.index tables
  first_room h =
      let some : length (changes_at c.table c.index (c ∷ cs)) ≡ suc (length (changes_at c.table c.index cs)) = ap length (first_is c cs) in
      let room = h c.table c.index in omega (arith, some, room)

  pub first_later : AllAllowed ts (c ∷ cs) tables → AllEarlier c.key ts (entries_at c.table c.index tables)
  first_later h = (subst (λ (l : List Change). AreAllowed (entries_of ts l) (entries_at c.table c.index tables)) (first_is c cs) (h c.table c.index)).0

  module _ (after : List (List IndexRows)) (rows : (table index : ℕ) → entries_at table index after ≡ cond (is_at table index c) (inserted (entry_of ts c) (entries_at table index tables)) (entries_at table index tables)) where
    pub rest_room : ((table index : ℕ) → spare_at table index tables ≤ spare_at table index after + cond (is_at table index c) 1 0) → HasRooms (c ∷ cs) tables → HasRooms cs after
    rest_room spare h table index = go (is_at table index c) (spare table index) (h table index)
      where
        go : (b : Bool) → spare_at table index tables ≤ spare_at table index after + cond b 1 0
            → length (cond b (c ∷ changes_at table index cs) (changes_at table index cs)) ≤ spare_at table index tables → length (changes_at table index cs) ≤ spare_at table index after
        go true s l = omega (arith, s, l)
        go false s l = omega (arith, s, l)

    pub rest_allowed : AllAllowed ts (c ∷ cs) tables → AllAllowed ts cs after
    rest_allowed h table index = go (is_at table index c) (rows table index) (h table index)
      where
        go : (b : Bool) → entries_at table index after ≡ cond b (inserted (entry_of ts c) (entries_at table index tables)) (entries_at table index tables)
            → AreAllowed (entries_of ts (cond b (c ∷ changes_at table index cs) (changes_at table index cs))) (entries_at table index tables)
            → AreAllowed (entries_of ts (changes_at table index cs)) (entries_at table index after)
        go true e a = subst (AreAllowed (entries_of ts (changes_at table index cs))) (sym e) a.1
        go false e a = subst (AreAllowed (entries_of ts (changes_at table index cs))) (sym e) a

    pub rest_rows : (table index : ℕ) → with_all (entries_of ts (changes_at table index cs)) (entries_at table index after) ≡ with_all (entries_of ts (changes_at table index (c ∷ cs))) (entries_at table index tables)
    rest_rows table index = go (is_at table index c) (rows table index)
      where
        go : (b : Bool) → entries_at table index after ≡ cond b (inserted (entry_of ts c) (entries_at table index tables)) (entries_at table index tables)
            → with_all (entries_of ts (changes_at table index cs)) (entries_at table index after) ≡ with_all (entries_of ts (cond b (c ∷ changes_at table index cs) (changes_at table index cs))) (entries_at table index tables)
        go true e = ap (with_all (entries_of ts (changes_at table index cs))) e
        go false e = ap (with_all (entries_of ts (changes_at table index cs))) e

-- ---- room for each change so far

pub all_stay : (each : ℕ) (tables after : List (List IndexRows)) → ((t i : ℕ) → spare_at t i tables ≤ spare_at t i after)
    → (cs : List Change) → AllByRecursion (λ c. each ≤ spare_at c.table c.index tables) cs → AllByRecursion (λ c. each ≤ spare_at c.table c.index after) cs
all_stay each tables after grows [] h = tt
all_stay each tables after grows (c ∷ cs) h = (let more = grows c.table c.index in omega (arith, more, h.0), all_stay each tables after grows cs h.1)
