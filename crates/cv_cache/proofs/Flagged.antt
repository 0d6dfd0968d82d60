-- The flags that are up behind a search for marks.
use Rattle.std.proofs.Common.{◌≡◌, ℕ, ◌<◌, ◌||◌, List, [], length, Some, None, refl, ap, ◌∙◌, arith}
use Rattle.std.specs.List.{AllByRecursion}
use Rattle.cv_reads.specs.declared.mark.Mark.{Mark}
use Rattle.cv_ranges.specs.Hits.{after_hits, is_among, is_touched, marked_owners}
use Rattle.cv_ranges.specs.Laws.{TouchedAreHit}
use Rattle.slab.proofs.SlabLemmas.{ContainsKey-within}
use Rattle.slab.specs.Slab.{ContainsKey, get}
use Rattle.cv_cache.proofs.Hits.{hits_up}
use Rattle.cv_cache.proofs.Numbered.{place_is_own, at_each_place}
use Rattle.cv_cache.proofs.Tied.{name_of, read_by}
use Rattle.cv_cache.specs.Flags.{is_up, raised}
use Rattle.cv_cache.specs.Numbers.{query_of}
use Rattle.cv_cache.specs.Recent.{Held}
use Rattle.cv_cache.specs.Ties.{reads_of, IsWell}
use Rattle.cv_cache.specs.declared.entries.Entries.{Entries}

pub touched_are_up : TouchedAreHit → (e : Entries) (marks : List Mark) → IsWell e
    → AllByRecursion (λ (h : Held). is_up (after_hits raised e.owners.flags (marked_owners marks e.ranges)).up.items h.1.owner ≡ is_touched marks h.1.reads) e.recent
touched_are_up law e marks well = at_each_place _ e.recent (λ n h at.
    let owners = marked_owners marks e.ranges in
    let named : get e.owners.queries h.1.owner ≡ Some h.0 = well.tied.numbers h.1.owner ∙ place_is_own name_of None n e.recent h well.tied.apart at in
    let reads : reads_of e.recent h.1.owner ≡ h.1.reads = place_is_own read_by [] n e.recent h well.tied.apart at in
    let there : ContainsKey e.owners.queries h.1.owner = rw named refl in
    let slot : h.1.owner < length e.owners.queries.slots = ContainsKey-within e.owners.queries h.1.owner there in
    let within : h.1.owner < length e.owners.flags.up.items = omega (arith, slot, well.flagged.enough) in
    hits_up e.owners.flags owners h.1.owner within
    ∙ ap (λ b. b || is_among h.1.owner owners) (well.flagged.down h.1.owner)
    ∙ law e.ranges (reads_of e.recent) marks h.1.owner well.tied.holds
    ∙ ap (is_touched marks) reads)
