use Rattle.std.proofs.Common.{◌≡◌, false, length, ◌≤◌, ◌∙◌, ap, sym, subst, arith}
use Rattle.cv_ranges.specs.Hits.{after_hits, marked_owners}
use Rattle.cv_cache.proofs.Flagged.{touched_are_up}
use Rattle.cv_cache.proofs.Hits.{hits_none, hits_size}
use Rattle.cv_cache.proofs.Shown.{shown_untouched}
use Rattle.cv_cache.specs.Entries.{cache_of}
use Rattle.cv_cache.specs.Flags.{AreDown, is_up, raised}
use Rattle.cv_cache.specs.Recent.{untouched}
use Rattle.cv_cache.proofs.entries.Entries.invalidate.Goals as goal

pub sweep-requires-clause-none : goal.sweep-requires-clause-none
sweep-requires-clause-none c = λ none.
    let f = c.args.self.now.owners.flags in
    let owners = marked_owners c.args.marks.now c.args.self.now.ranges in
    subst (λ g. AreDown g.up.items) (sym c.hit_touched.ensures) (hits_none f owners c.requires.flagged.down (subst (λ g. g.any ≡ false) c.hit_touched.ensures none))

pub returns-clause-well : goal.returns-clause-well
returns-clause-well c =
    let f = c.args.self.now.owners.flags in
    let owners = marked_owners c.args.marks.now c.args.self.now.ranges in
    let size = c.sweep.ensures.flags ∙ ap (λ g. length g.up.items) c.hit_touched.ensures ∙ hits_size f owners in
    record {
      tied = c.sweep.ensures.tied;
      flagged = record { enough = omega (arith, c.requires.flagged.enough, size, c.sweep.ensures.slots); down = c.sweep.ensures.down; none = c.sweep.ensures.none };
    }

pub returns-clause-entries : goal.returns-clause-entries
returns-clause-entries c =
    let e = c.args.self.now in
    let owners = marked_owners c.args.marks.now e.ranges in
    ap cache_of c.sweep.ensures.entries
    ∙ ap (λ g. cache_of (untouched (is_up g.up.items) e.recent)) c.hit_touched.ensures
    ∙ shown_untouched (is_up (after_hits raised e.owners.flags owners).up.items) c.args.marks.now e.recent (touched_are_up c.ranges_tell.ensures.touched e c.args.marks.now c.requires)
