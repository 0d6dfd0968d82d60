-- What is owed where an entry is put.
use Rattle.std.proofs.Common.{◌≡◌, List, [], length, Option, Some, None, ap, sym, subst, ◌∙◌, ◌≤◌}
use Rattle.std.specs.Prelude.{false, slice_index_or}
use Rattle.range_tree.specs.Ranges.{Owned}
use Rattle.cv_ranges.specs.Held.{HasRead, KeepsOthers}
use Rattle.slab.specs.Slab.{Slab, get, Updates}
use Rattle.fn_tree.specs.declared.stop.Query.{Query}
use Rattle.cv_cache.proofs.Replaced.{Replaces, put_replaces}
use Rattle.cv_cache.proofs.Tied.{name_of, read_by, read_of_gone, free_reads_nothing, tied_put}
use Rattle.cv_cache.specs.Numbers.{query_of}
use Rattle.cv_cache.specs.Owners.{IsFlagged}
use Rattle.cv_cache.specs.Recent.{Held, IsRecent, put_first, gone_for}
use Rattle.cv_cache.specs.Ties.{IsTied, IsWell, HasReadOf, GivesBack}
use Rattle.cv_cache.specs.declared.kept.Kept.{Kept}
use Rattle.cv_cache.specs.declared.owners.Owners.{Owners}

-- with the same slots the same numbers have names
pub tied_slots : (es : List Held) (a b : Slab Query) (tree : List Owned) → b.slots ≡ a.slots → IsTied es a tree → IsTied es b tree
tied_slots es a b tree same tied = record {
  apart = tied.apart;
  numbers = λ n. ap (λ s. slice_index_or s n None) same ∙ tied.numbers n;
  holds = tied.holds;
}

pub flagged_same : (o p : Owners) → p.flags ≡ o.flags → length p.queries.slots ≡ length o.queries.slots → IsFlagged o → IsFlagged p
flagged_same o p flags slots f = record {
  enough = subst (λ n. n ≤ length p.flags.up.items) (sym slots) (subst (λ g. length o.queries.slots ≤ length g.up.items) (sym flags) f.enough);
  down = λ n. ap (λ g. slice_index_or g.up.items n false) flags ∙ f.down n;
  none = ap (λ g. g.any) flags ∙ f.none;
}

module _ (q : Query) (k : Kept) (es : List Held) (recent : IsRecent es) (before : Slab Query) (old : List Owned) (tied : IsTied es before old) (gone : Option Kept) (which : gone ≡ gone_for q es) where
  pub gone_has_read : HasReadOf old gone
  gone_has_read = subst (HasReadOf old) (sym which) (read_of_gone (q, k) es (put_first q k es) (gone_for q es) before old tied (put_replaces read_by [] q k es recent tied.apart))

  module _ (vacant : get before k.owner ≡ None) (first after : Slab Query) (new : List Owned) (gives : GivesBack gone first after old new) where
    named : Replaces name_of None (q, k) es gone (put_first q k es)
    named = subst (λ g. Replaces name_of None (q, k) es g (put_first q k es)) (sym which) (put_replaces name_of None q k es recent tied.apart)

    pub new_reads_nothing : HasRead new k.owner []
    new_reads_nothing = free_reads_nothing k.owner es (q, k) gone (put_first q k es) before first after old new tied (sym (tied.numbers k.owner) ∙ vacant) named gives

    pub put_tied : (last : List Owned) → Updates before first k.owner (Some q) → HasRead last k.owner k.reads → KeepsOthers k.owner new last → IsTied (put_first q k es) after last
    put_tied last updates has keeps = tied_put q k es (put_first q k es) gone before first after old new last tied vacant named updates gives has keeps
