use Rattle.std.proofs.Common.{ap, ◌∙◌, arith}
use Rattle.conn_pool.specs.Hands.{known, weigh}
use Rattle.conn_pool.specs.declared.pool.PoolPass.{PoolPass}
use Rattle.conn_pool.proofs.Balance.{all_last, sum_last, weigh_append}
use Rattle.conn_pool.proofs.pool.Pool.merge_all.Goals as goal

pub loop-next-init : goal.loop-next-init
loop-next-init g c =
    let e = c.in-Some.ensures.items in
    let a = all_last _ _ _ _ e c.requires.all in (
      a.1.0,
      a.1.1,
      a.0,
      sum_last (λ (p : PoolPass g.row.C.Denot g.C.Turnable). (known {C = g.row.C.Denot} p.waiting).parts) _ _ _ e,
      λ h. sum_last (λ (p : PoolPass g.row.C.Denot g.C.Turnable). weigh h (known {C = g.row.C.Denot} p.waiting).put) _ _ _ e,
    )

pub join-requires-clause-other : goal.join-requires-clause-other
join-requires-clause-other g c = (all_last _ _ _ _ c.in-Some-pop.ensures.items c.loop-next.invariant.2).1

pub loop-next-preserved : goal.loop-next-preserved
loop-next-preserved g c =
    let e = c.in-Some-pop.ensures.items in
    let i = c.loop-next.invariant in
    let a = all_last _ _ _ _ e i.2 in
    let q = c.join.ensures.pass in
    let v = c.join.ensures.waiting in (
      (q.0.0 ∙ i.0.0, q.0.2 ∙ i.0.1),
      (q.1.0 ∙ i.1.0, q.1.2 ∙ i.1.1),
      a.0,
      (let s = sum_last (λ (p : PoolPass g.row.C.Denot g.C.Turnable). (known {C = g.row.C.Denot} p.waiting).parts) _ _ _ e in let n = ap (λ u. u.parts) v in let j = i.3 in omega arith),
      λ h.
          let s = sum_last (λ (p : PoolPass g.row.C.Denot g.C.Turnable). weigh h (known {C = g.row.C.Denot} p.waiting).put) _ _ _ e in
          let n = ap (λ u. weigh h u.put) v ∙ weigh_append h (known {C = g.row.C.Denot} c.loop-next.all.waiting).put (known {C = g.row.C.Denot} c.in-Some-pop.next.waiting).put in
          let j = i.4 h in
          omega arith,
    )
