use Rattle.std.proofs.Common.{◌<◌, sym, subst, ap, ◌∙◌, arith}
use Rattle.conn_pool.proofs.Balance.{takes, takes_one, learns}
use Rattle.conn_pool.proofs.closing.drain.Goals as goal

pub pop_as-requires-clause-rule : goal.pop_as-requires-clause-rule
pop_as-requires-clause-rule g c =
    (takes _ _ (subst (λ n. 0 < n) (sym (c.loop.invariant.1 ∙ c.requires.parts)) (let a : 0 < 1024 = omega arith in a)), learns _ _)

pub loop-preserved : goal.loop-preserved
loop-preserved g c =
    let r = c.in-Some-pop_as.ensures.rule in
    let i = c.loop.invariant in
    let q = c.pop_as.ensures.queue in (
      (q.0 ∙ i.0.0, q.1 ∙ i.0.1, q.2 ∙ i.0.2),
      ap (λ v. v.parts) r ∙ i.1,
      ap (λ v. v.put) r ∙ i.2,
      ap (λ v. v.back) r ∙ i.3,
      λ h. takes_one h _ _ c.in-Some-pop_as.entry _ _ _ _ _ r c.reserve.ensures.items c.push_reserved.ensures.items (i.4 h),
    )
