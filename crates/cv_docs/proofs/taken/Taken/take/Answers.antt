use Rattle.std.proofs.Common.{◌≡◌, ap, arith}
use Rattle.cv_docs.proofs.Taking.{taken_more}
use Rattle.cv_docs.proofs.taken.Taken.take.Goals as goal

pub returns-in-Some-clause-ok : goal.returns-in-Some-clause-ok
returns-in-Some-clause-ok c = λ ds.
    let e : c.self.inside.rows ≡ c.args.self.now.rows = ap (λ t. t.rows) c.self.view_is in
    rw (← c.self.view_is, c.in_ok-push.ensures.items, c.in_ok-copy.ensures) (taken_more _ _ _ _ _ ds (omega arith) c.in-Some.ensures)
