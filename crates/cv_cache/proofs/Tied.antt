-- Entries, numbers and ranges that change together.
use Rattle.std.proofs.Common.{◌≡◌, ◌≢◌, ◌↔◌, ℕ, false, ◌==◌, cond, ◌⊎◌, inl, inr, List, [], ◌∷◌, Option, Some, None, IfSome, Contains, refl, sym, ap, subst, ◌∙◌}
use Rattle.std.proofs.lemmas.Bool.Decides.{eqb_tells}
use Rattle.std.specs.Prelude.{slice_index_or}
use Rattle.std.specs.List.{IsDistinct}
use Rattle.std.specs.Map.{keys_of, lookup}
use Rattle.cv_keys.specs.declared.interval.Interval.{Interval}
use Rattle.range_tree.specs.Ranges.{Owned}
use Rattle.cv_ranges.specs.Held.{Readings, none_read, HasRead, HoldsReads, KeepsOthers}
use Rattle.slab.specs.Slab.{Slab, get, Updates}
use Rattle.fn_tree.specs.declared.stop.Query.{Query}
use Rattle.cv_store.specs.Cache.{same_query}
use Rattle.cv_cache.proofs.Numbered.{NoneOf, IsOwn, of_number-without, of_number-none, none_of, none_without, numbers_stay, apart_without, apart_with, found_is_own, others_by_number, all_without, number_finds}
use Rattle.cv_cache.proofs.Queries.{same_decides}
use Rattle.cv_cache.proofs.Replaced.{Replaces}
use Rattle.cv_cache.specs.Numbers.{of_number, query_of, without_number, numbers_of}
use Rattle.cv_cache.specs.Recent.{Held, without}
use Rattle.cv_cache.specs.Ties.{reads_of, IsTied, IsWell, HasReadOf, GivesBack}
use Rattle.cv_cache.specs.Owners.{IsFlagged}
use Rattle.cv_cache.specs.declared.entries.Entries.{Entries}
use Rattle.cv_cache.specs.declared.kept.Kept.{Kept}

abbrev pub name_of : Held → Option Query
name_of e = Some e.0

abbrev pub read_by : Held → List Interval
read_by e = e.1.reads

-- ---- ranges

-- a tree holds equal readings too
pub equal_held : (tree : List Owned) (reads others : Readings) → HoldsReads tree reads → ((n : ℕ) → others n ≡ reads n) → HoldsReads tree others
equal_held tree reads others holds same n = subst (HasRead tree n) (sym (same n)) (holds n)

-- where one owner's ranges change
changed_held : (n : ℕ) (is : List Interval) (old new : List Owned) (reads : Readings) → HoldsReads old reads → HasRead new n is → KeepsOthers n old new
    → (m : ℕ) → HasRead new m (cond (m == n) is (reads m))
changed_held n is old new reads holds has keeps m =
    elim (eqb_tells m n) [
      | inl p ↦ rw p.0 (subst (λ o. HasRead new o is) (sym p.1) has)
      | inr p ↦ rw p.0 (λ i. let k = keeps m p.1 i in let h = holds m i in (λ c. h.0 (k.0 c), λ c. k.1 (h.1 c)))
    ]

held_without : (n : ℕ) (es : List Held) (old new : List Owned) → HoldsReads old (reads_of es) → HasRead new n [] → KeepsOthers n old new → HoldsReads new (reads_of (without_number n es))
held_without n es old new holds has keeps m = subst (HasRead new m) (sym (of_number-without read_by [] n m es)) (changed_held n [] old new (reads_of es) holds has keeps m)

held_with : (e : Held) (es : List Held) (old new : List Owned) → HoldsReads old (reads_of es) → HasRead new e.1.owner e.1.reads → KeepsOthers e.1.owner old new → HoldsReads new (reads_of (e ∷ es))
held_with e es old new holds has keeps m = changed_held e.1.owner e.1.reads old new (reads_of es) holds has keeps m

-- ---- one entry goes

pub tied_without : (n : ℕ) (es : List Held) (before after : Slab Query) (old new : List Owned) → IsTied es before old → Updates before after n None → HasRead new n [] → KeepsOthers n old new → IsTied (without_number n es) after new
tied_without n es before after old new tied updates has keeps = record {
  apart = apart_without n es tied.apart;
  numbers = λ m. rw (of_number-without name_of None n m es) (elim (eqb_tells m n) [
    | inl p ↦ rw p.0 (subst (λ o. get after o ≡ None) (sym p.1) updates.changed)
    | inr p ↦ rw p.0 (updates.others m p.1 ∙ tied.numbers m)
  ]);
  holds = held_without n es old new tied.holds has keeps;
}

-- a number that no entry has
pub tied_unused : (n : ℕ) (es : List Held) (before after : Slab Query) (tree : List Owned) → IsTied es before tree → Updates before after n None → query_of es n ≡ None → IsTied es after tree
tied_unused n es before after tree tied updates unused = record {
  apart = tied.apart;
  numbers = λ m. elim (eqb_tells m n) [
    | inl p ↦ subst (λ o. get after o ≡ query_of es o) (sym p.1) (updates.changed ∙ sym unused)
    | inr p ↦ updates.others m p.1 ∙ tied.numbers m
  ];
  holds = tied.holds;
}

-- ---- an entry is used again

again : {X : Type 0} (f : Held → X) (none : X) (e : Held) (es : List Held) → IsOwn f none e es → (n : ℕ) → of_number f none (e ∷ without_number e.1.owner es) n ≡ of_number f none es n
again f none e es own n = rw (of_number-without f none e.1.owner n es) (elim (eqb_tells n e.1.owner) [
  | inl p ↦ rw p.0 (subst (λ o. f e ≡ of_number f none es o) (sym p.1) (sym own))
  | inr p ↦ rw p.0 refl
])

pub tied_again : (q : Query) (k : Kept) (es : List Held) (queries : Slab Query) (tree : List Owned) → IsTied es queries tree → IsDistinct same_query (keys_of es) → lookup (same_query q) es ≡ Some k → IsTied ((q, k) ∷ without q es) queries tree
tied_again q k es queries tree tied once found =
    let one : Held = (q, k) in
    let others = others_by_number same_query same_decides q es k once tied.apart found in
    subst (λ r. IsTied (one ∷ r) queries tree) (sym others) (record {
      apart = apart_with one (without_number k.owner es) (none_without k.owner es) (apart_without k.owner es tied.apart);
      numbers = λ n. tied.numbers n ∙ sym (again name_of None one es (found_is_own same_query same_decides name_of None q es k tied.apart found) n);
      holds = equal_held tree (reads_of es) (reads_of (one ∷ without_number k.owner es)) tied.holds (again read_by [] one es (found_is_own same_query same_decides read_by [] q es k tied.apart found));
    })

-- ---- an entry is put

-- the tree has what the entry that goes has read
pub read_of_gone : (e : Held) (es es' : List Held) (gone : Option Kept) (queries : Slab Query) (tree : List Owned) → IsTied es queries tree → Replaces read_by [] e es gone es' → HasReadOf tree gone
read_of_gone e es es' None queries tree tied replaces = tt
read_of_gone e es es' (Some g) queries tree tied replaces = subst (HasRead tree g.owner) replaces.1 (tied.holds g.owner)

-- a number that no entry has isn't that of the entry that goes
apart_from_gone : (w : ℕ) (q : Query) (g : Kept) (es : List Held) → query_of es w ≡ None → IsOwn name_of None (q, g) es → w ≢ g.owner
apart_from_gone w q g es free own same = let h : query_of es w ≡ Some q = subst (λ o. query_of es o ≡ Some q) (sym same) own in cc

-- a free number reads nothing, also once an entry went
pub free_reads_nothing : (w : ℕ) (es : List Held) (e : Held) (gone : Option Kept) (es' : List Held) (before first after : Slab Query) (old new : List Owned)
    → IsTied es before old → query_of es w ≡ None → Replaces name_of None e es gone es' → GivesBack gone first after old new → HasRead new w []
free_reads_nothing w es e None es' before first after old new tied free replaces gives =
    subst (λ t. HasRead t w []) (sym gives.1) (subst (HasRead old w) (of_number-none read_by [] w es (none_of w es free)) (tied.holds w))
free_reads_nothing w es e (Some g) es' before first after old new tied free replaces gives =
    let nothing = subst (HasRead old w) (of_number-none read_by [] w es (none_of w es free)) (tied.holds w) in
    let other = apart_from_gone w replaces.0 g es free replaces.1 in
    λ i. let k = gives.2 w other i in let h = nothing i in (λ c. h.0 (k.0 c), λ c. k.1 (h.1 c))

pub tied_put : (q : Query) (k : Kept) (es es' : List Held) (gone : Option Kept) (before first after : Slab Query) (old new last : List Owned)
    → IsTied es before old → get before k.owner ≡ None
    → Replaces name_of None (q, k) es gone es'
    → Updates before first k.owner (Some q) → GivesBack gone first after old new
    → HasRead last k.owner k.reads → KeepsOthers k.owner new last
    → IsTied es' after last
tied_put q k es es' None before first after old new last tied vacant replaces updates gives has keeps =
    let one : Held = (q, k) in
    let free : query_of es k.owner ≡ None = sym (tied.numbers k.owner) ∙ vacant in
    subst (λ r. IsTied r after last) (sym replaces) (record {
      apart = apart_with one es (none_of k.owner es free) tied.apart;
      numbers = λ n. ap (λ s. get s n) gives.0 ∙ elim (eqb_tells n k.owner) [
        | inl p ↦ rw p.0 (subst (λ o. get first o ≡ Some q) (sym p.1) updates.changed)
        | inr p ↦ rw p.0 (updates.others n p.1 ∙ tied.numbers n)
      ];
      holds = held_with one es new last (subst (λ t. HoldsReads t (reads_of es)) (sym gives.1) tied.holds) has keeps;
    })
tied_put q k es es' (Some g) before first after old new last tied vacant replaces updates gives has keeps =
    let one : Held = (q, k) in
    let free : query_of es k.owner ≡ None = sym (tied.numbers k.owner) ∙ vacant in
    let other = apart_from_gone k.owner replaces.0 g es free replaces.1 in
    let rest = without_number g.owner es in
    subst (λ r. IsTied r after last) (sym replaces.2) (record {
      apart = apart_with one rest (numbers_stay (λ m. (k.owner == m) ≡ false) g.owner es (none_of k.owner es free)) (apart_without g.owner es tied.apart);
      numbers = λ n. elim (eqb_tells n k.owner) [
        | inl p ↦ rw p.0 (subst (λ o. get after o ≡ Some q) (sym p.1) (gives.0.others k.owner other ∙ updates.changed))
        | inr p ↦ rw (p.0, of_number-without name_of None g.owner n es) (elim (eqb_tells n g.owner) [
          | inl r ↦ rw r.0 (subst (λ o. get after o ≡ None) (sym r.1) gives.0.changed)
          | inr r ↦ rw r.0 (gives.0.others n r.1 ∙ updates.others n p.1 ∙ tied.numbers n)
        ])
      ];
      holds = held_with one rest new last (held_without g.owner es old new tied.holds gives.1 gives.2) has keeps;
    })

-- ---- an entry is forgotten

module _ (n : ℕ) (es : List Held) (queries : Slab Query) (tree : List Owned) (tied : IsTied es queries tree) (once : IsDistinct same_query (keys_of es)) (q : Query) (named : Some q ≡ get queries n) where
  name_is : query_of es n ≡ Some q
  name_is = sym (tied.numbers n) ∙ sym named

  -- the query of the number has an entry
  pub is_there : None ≡ lookup (same_query q) es → ⊥
  is_there none = let found = number_finds same_query same_decides n es q once name_is in let bad = none ∙ found.1 in cc

  module _ (k : Kept) (found : Some k ≡ lookup (same_query q) es) where
    number_is : k.owner ≡ n
    number_is =
        let one = number_finds same_query same_decides n es q once name_is in
        let both : Some k ≡ Some one.0 = found ∙ one.1 in
        let same : k ≡ one.0 = cc in
        ap (λ (j : Kept). j.owner) same ∙ one.2

    pub read_of_number : HasRead tree n k.reads
    read_of_number =
        let own = found_is_own same_query same_decides read_by [] q es k tied.apart (sym found) in
        subst (λ o. HasRead tree o k.reads) number_is (subst (HasRead tree k.owner) own (tied.holds k.owner))

    pub others_are : without q es ≡ without_number n es
    others_are = others_by_number same_query same_decides q es k once tied.apart (sym found) ∙ ap (λ o. without_number o es) number_is

-- a number without an entry
pub none_goes : (n : ℕ) (es : List Held) (queries : Slab Query) (tree : List Owned) → IsTied es queries tree → None ≡ get queries n → es ≡ without_number n es
none_goes n es queries tree tied none = sym (all_without n es (none_of n es (sym (tied.numbers n) ∙ sym none)))

-- ---- no entries

pub new_well : (e : Entries) → HoldsReads [] none_read → e.recent ≡ [] → e.owners.queries.slots ≡ [] → e.ranges ≡ [] → IsFlagged e.owners → IsWell e
unfolding IsDistinct
new_well e empty none slots ranges flagged = record {
  tied = record {
    apart = subst (λ es. IsDistinct ◌==◌ (numbers_of es)) (sym none) tt;
    numbers = λ n. ap (λ s. slice_index_or s n None) slots ∙ ap (λ es. query_of es n) (sym none);
    holds = subst (λ es. HoldsReads e.ranges (reads_of es)) (sym none) (subst (λ t. HoldsReads t none_read) (sym ranges) empty);
  };
  flagged = flagged;
}
