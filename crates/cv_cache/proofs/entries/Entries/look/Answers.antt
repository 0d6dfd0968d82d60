use Rattle.std.proofs.Common.{◌≡◌, ◌≤◌, Some, ◌∙◌, ap, sym, subst, arith}
use Rattle.std.specs.Map.{lookup}
use Rattle.cv_cache.proofs.Shown.{hit_shows, hit_used, late_is_miss, late_stays, none_is_miss, none_stays}
use Rattle.cv_cache.proofs.Tied.{tied_again}
use Rattle.cv_cache.specs.Entries.{cache_of}
use Rattle.cv_cache.specs.Recent.{used_again}
use Rattle.cv_cache.specs.Ties.{IsTied}
use Rattle.cv_store.specs.Cache.{same_query}
use Rattle.cv_cache.proofs.entries.Entries.look.Goals as goal

pub returns-in_default-clause-ok : goal.returns-in_default-clause-ok
returns-in_default-clause-ok c = none_is_miss c.args.query.now c.args.ts c.args.self.now.recent c.len-count.ensures.distinct c.in_default.ensures

pub returns-in_default-clause-used : goal.returns-in_default-clause-used
returns-in_default-clause-used c = none_stays c.args.query.now c.args.ts c.args.self.now.recent c.len-count.ensures.distinct c.in_default.ensures

pub returns-then-ts-kept-clause-ok : goal.returns-then-ts-kept-clause-ok
returns-then-ts-kept-clause-ok c = late_is_miss c.args.query.now c.args.ts c.args.self.now.recent c.len-count.ensures.distinct c.in-Some.kept.now c.in-Some.ensures c.if-ts-kept.true

pub returns-then-ts-kept-clause-used : goal.returns-then-ts-kept-clause-used
returns-then-ts-kept-clause-used c = late_stays c.args.query.now c.args.ts c.args.self.now.recent c.len-count.ensures.distinct c.in-Some.kept.now c.in-Some.ensures c.if-ts-kept.true

pub returns-clause-well : goal.returns-clause-well
returns-clause-well c =
    let es = c.args.self.now.recent in let q = c.args.query.now in let k = c.in-Some.kept.now in
    let found : lookup (same_query q) es ≡ Some k = sym c.in-Some.ensures in
    let is : c.promote.new.self ≡ used_again q es = c.promote.ensures in
    record {
      tied = subst (λ r. IsTied r c.args.self.now.owners.queries c.args.self.now.ranges) (sym is)
          (rw found (tied_again q k es c.args.self.now.owners.queries c.args.self.now.ranges c.requires.tied c.len-count.ensures.distinct found));
      flagged = c.requires.flagged;
    }

pub returns-clause-ok : goal.returns-clause-ok
returns-clause-ok c =
    hit_shows c.args.query.now c.args.ts c.args.self.now.recent c.len-count.ensures.distinct c.in-Some.kept.now c.in-Some.ensures c.in_ok-reply.reply c.in_ok-reads.reads
    c.if-ts-kept.false c.in_ok-reply.ensures c.in_ok-reads.ensures

pub returns-clause-used : goal.returns-clause-used
returns-clause-used c =
    ap cache_of c.promote.ensures ∙ hit_used c.args.query.now c.args.ts c.args.self.now.recent c.len-count.ensures.distinct c.in-Some.kept.now c.in-Some.ensures c.if-ts-kept.false
