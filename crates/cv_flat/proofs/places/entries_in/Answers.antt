use Rattle.cv_flat.proofs.Inside.{slice_in}
use Rattle.cv_flat.proofs.places.entries_in.Goals as goal

pub returns : goal.returns
returns c = rw (c.max-end.ensures, c.first_from.ensures.place, c.first_from-first.ensures.place) (slice_in c.args.i.now c.args.entries.now c.requires)
