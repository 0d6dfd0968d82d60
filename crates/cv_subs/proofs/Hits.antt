-- Queries whose numbers are hit are stale.
use Rattle.std.proofs.Common.{◌≡◌, ℕ, ◌<◌, Bool, true, false, ◌||◌, ◌==◌, cond, List, [], ◌∷◌, Some, None, Option, refl, sym, ap, ◌∙◌, arith}
use Rattle.cv_keys.specs.declared.interval.Interval.{Interval}
use Rattle.cv_reads.specs.declared.mark.Mark.{Mark}
use Rattle.cv_ranges.specs.Held.{Readings}
use Rattle.cv_ranges.specs.Hits.{is_touched, is_among, after_hits}
use Rattle.cv_subs.specs.Subs.{Sub, Subs, sub_at, reads_in, reads_of, changed, staled, after_marks, advanced, AllAbove, IsRising}
use Rattle.cv_subs.proofs.Numbers.{alike, differ, other_way}

-- each query is stale that was, or whose number is among these
abbrev hit_by : List ℕ → ℕ × Sub → ℕ × Sub
hit_by owners p = (p.0, record p.1 { stale = p.1.stale || is_among p.0 owners })

abbrev all_hit : List ℕ → Subs → Subs
all_hit owners [] = []
all_hit owners (p ∷ l) = hit_by owners p ∷ all_hit owners l

or_none : (b : Bool) → (b || false) ≡ b
or_none true = refl
or_none false = refl

none_hit : (l : Subs) → l ≡ all_hit [] l
none_hit [] = refl
none_hit (p ∷ l) =
    let stays : p ≡ hit_by [] p = λ i. (p.0, record p.1 { stale = sym (or_none p.1.stale) i }) in
    λ i. stays i ∷ none_hit l i

one_hit : (owner : ℕ) (owners : List ℕ) (p : ℕ × Sub) → hit_by owners (p.0, cond (p.0 == owner) (staled p.1) p.1) ≡ hit_by (owner ∷ owners) p
one_hit owner owners p =
    rw (other_way p.0 owner)
    (elim (owner == p.0) as (λ b. ◌≡◌ {A = ℕ × Sub} (hit_by owners (p.0, cond b (staled p.1) p.1)) (p.0, record p.1 { stale = p.1.stale || (b || is_among p.0 owners) })) [
      | true ↦ (elim p.1.stale as (λ b. ◌≡◌ {A = ℕ × Sub} (p.0, record p.1 { stale = true }) (p.0, record p.1 { stale = b || true })) [ true ↦ refl | false ↦ refl ])
      | false ↦ refl
    ])

more_hit : (owner : ℕ) (owners : List ℕ) (l : Subs) → all_hit owners (changed owner staled l) ≡ all_hit (owner ∷ owners) l
more_hit owner owners [] = refl
more_hit owner owners (p ∷ l) = λ i. one_hit owner owners p i ∷ more_hit owner owners l i

pub hits_stale : (owners : List ℕ) (l : Subs) → after_hits (λ (subs : Subs) owner. changed owner staled subs) l owners ≡ all_hit owners l
hits_stale [] l = none_hit l
hits_stale (owner ∷ owners) l = hits_stale owners (changed owner staled l) ∙ more_hit owner owners l

-- what each query of a list has read is what these readings say
abbrev Agree : Readings → Subs → Type 0
Agree reads [] = Unit {0}
Agree reads (p ∷ l) = (reads p.0 ≡ p.1.reads) × Agree reads l

later_agree : (n : ℕ) (s : Sub) (m l : Subs) → AllAbove n l → Agree (reads_of m) l → Agree (reads_of ((n, s) ∷ m)) l
later_agree n s m [] above agree = tt
later_agree n s m (p ∷ l) above agree =
    let no : (n == p.0) ≡ false = differ n p.0 (λ e. omega (arith, above.0)) in
    (ap (λ b. reads_in (cond b (Some s) (sub_at p.0 m))) no ∙ agree.0, later_agree n s m l above.1 agree.1)

all_agree : (l : Subs) → IsRising l → Agree (reads_of l) l
all_agree [] rising = tt
all_agree (p ∷ l) rising =
    (ap (λ b. reads_in (cond b (Some p.1) (sub_at p.0 l))) (alike p.0 p.0 refl), later_agree p.0 p.1 l l rising.0 (all_agree l rising.1))

touched_stale : (marks : List Mark) (owners : List ℕ) (reads : Readings) (l : Subs) → ((owner : ℕ) → is_among owner owners ≡ is_touched marks (reads owner)) → Agree reads l
    → all_hit owners l ≡ after_marks marks l
touched_stale marks owners reads [] touched agree = refl
touched_stale marks owners reads (p ∷ l) touched agree =
    let same : is_among p.0 owners ≡ is_touched marks p.1.reads = touched p.0 ∙ ap (is_touched marks) agree.0 in
    let head : ◌≡◌ {A = ℕ × Sub} (hit_by owners p) (p.0, advanced marks p.1) = λ i. (p.0, record p.1 { stale = p.1.stale || same i }) in
    let tail = touched_stale marks owners reads l touched agree.1 in
    λ i. head i ∷ tail i

-- so the queries that marks touch are stale
pub marks_stale : (marks : List Mark) (owners : List ℕ) (l : Subs) → IsRising l → ((owner : ℕ) → is_among owner owners ≡ is_touched marks (reads_of l owner))
    → after_hits (λ (subs : Subs) owner. changed owner staled subs) l owners ≡ after_marks marks l
marks_stale marks owners l rising touched = hits_stale owners l ∙ touched_stale marks owners (reads_of l) l touched (all_agree l rising)
