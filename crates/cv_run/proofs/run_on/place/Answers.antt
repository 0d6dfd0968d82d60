use Rattle.cv_run.proofs.PauseLemmas.{put_runs}
use Rattle.cv_run.proofs.run_on.place.Goals as goal

pub returns-clause-ok : goal.returns-clause-ok
returns-clause-ok c code m s ds next waits rest =
    let fits = c.id_fits.ensures in
    put_runs code m s ds c.placed.new.self c.args.tx.now c.put.new.self c.args.p next
    (record { table = fits.table; session = fits.session; request = fits.request; ordinal = fits.ordinal })
    c.in_ok-put.ensures.ok (c.placed.ensures code next waits) rest
