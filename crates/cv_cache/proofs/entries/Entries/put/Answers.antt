use Rattle.std.proofs.Common.{◌≡◌, ℕ, Option, Some, None, ◌∙◌, ap, sym, subst}
use Rattle.slab.specs.Slab.{get, Updates}
use Rattle.fn_tree.specs.declared.stop.Query.{Query}
use Rattle.cv_cache.proofs.Put.{tied_slots, flagged_same, gone_has_read, new_reads_nothing, put_tied}
use Rattle.cv_cache.proofs.Shown.{shown_first}
use Rattle.cv_cache.specs.Entries.{cache_of}
use Rattle.cv_cache.specs.Recent.{put_first, gone_for}
use Rattle.cv_cache.specs.Ties.{IsTied}
use Rattle.cv_cache.specs.declared.kept.Kept.{Kept}
use Rattle.cv_cache.proofs.entries.Entries.put.Goals as goal

pub returns-in_err-gone-clause-well : goal.returns-in_err-gone-clause-well
returns-in_err-gone-clause-well c =
    let e = c.args.self.now in
    record {
      tied = subst (λ r. IsTied r c.reserve.new.self.queries e.ranges) (sym c.in_err-gone.ensures.err)
          (tied_slots e.recent e.owners.queries c.reserve.new.self.queries e.ranges c.reserve.ensures.slots c.requires.tied);
      flagged = c.reserve.ensures.flagged c.requires.flagged;
    }

pub give_back-requires : goal.give_back-requires
give_back-requires c =
    let e = c.args.self.now in
    let q = c.in_ok-query.field-0.query in let k = c.in_ok-query.field-0.kept in
    gone_has_read q k e.recent c.len-count.ensures e.owners.queries e.ranges c.requires.tied c.in_ok-gone.gone c.in_ok-gone.ensures.gone

pub put-requires-2-clause-apart : goal.put-requires-2-clause-apart
put-requires-2-clause-apart c =
    let e = c.args.self.now in
    let q = c.in_ok-query.field-0.query in
    let k : Kept = record { ts = c.args.ts; reply = c.args.reply.now; reads = c.args.reads.now; owner = c.next-owner.result } in
    let a = c.reserve.new.self.queries in
    let tied = tied_slots e.recent e.owners.queries a e.ranges c.reserve.ensures.slots c.requires.tied in
    new_reads_nothing q k e.recent c.len-count.ensures a e.ranges tied c.in_ok-gone.gone c.in_ok-gone.ensures.gone c.next-owner.ensures.vacant
    c.add.new.self.queries c.give_back.new.owners.queries c.give_back.new.ranges c.give_back.ensures.given

pub returns-clause-well : goal.returns-clause-well
returns-clause-well c =
    let e = c.args.self.now in
    let q : Query = c.args.query.now in
    let k : Kept = record { ts = c.args.ts; reply = c.args.reply.now; reads = c.args.reads.now; owner = c.next-owner.result } in
    let a = c.reserve.new.self.queries in
    let b = c.add.new.self.queries in
    let tied = tied_slots e.recent e.owners.queries a e.ranges c.reserve.ensures.slots c.requires.tied in
    let which : c.in_ok-gone.gone ≡ gone_for q e.recent = c.in_ok-gone.ensures.gone ∙ ap (λ r. gone_for r e.recent) c.in_ok-query.ensures.query in
    let entries : c.put.new.self ≡ put_first q k e.recent =
    c.in_ok-gone.ensures.entries ∙ ap (λ r. put_first r c.in_ok-query.field-0.kept e.recent) c.in_ok-query.ensures.query ∙ ap (λ j. put_first q j e.recent) c.in_ok-query.ensures.kept in
    let updates : Updates a b c.next-owner.result (Some q) =
    subst (λ (n : ℕ). Updates a b n (Some q)) (sym c.next-owner.ensures.value)
    (subst (λ (r : Query). Updates a b a.vacant_key (Some r)) c.in_ok-query.ensures.name c.add.ensures.updates) in
    record {
      tied = subst (λ r. IsTied r c.give_back.new.owners.queries c.put-2.new.tree) (sym entries)
          (put_tied q k e.recent c.len-count.ensures a e.ranges tied c.in_ok-gone.gone which c.next-owner.ensures.vacant b c.give_back.new.owners.queries c.give_back.new.ranges c.give_back.ensures.given
          c.put-2.new.tree updates c.put-2.ensures.has c.put-2.ensures.others);
      flagged = flagged_same c.add.new.self c.give_back.new.owners c.give_back.ensures.flags c.give_back.ensures.slots c.add.ensures.flagged;
    }

pub returns-clause-ok : goal.returns-clause-ok
returns-clause-ok c =
    let e = c.args.self.now in
    let q : Query = c.args.query.now in
    let k : Kept = record { ts = c.args.ts; reply = c.args.reply.now; reads = c.args.reads.now; owner = c.next-owner.result } in
    let entries : c.put.new.self ≡ put_first q k e.recent =
    c.in_ok-gone.ensures.entries ∙ ap (λ r. put_first r c.in_ok-query.field-0.kept e.recent) c.in_ok-query.ensures.query ∙ ap (λ j. put_first q j e.recent) c.in_ok-query.ensures.kept in
    ap cache_of entries ∙ shown_first q k e.recent
