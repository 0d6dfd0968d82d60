use Rattle.cv_core.proofs.the_core.Core.prepare.Goals as goal

pub returns-clause-same : goal.returns-clause-same
returns-clause-same c =
    let e = c.make_ready-ready.ensures in
    record { tree = e.tree; log = e.log; docs = e.docs; rows = e.rows; cache = e.cache }
