use Rattle.std.proofs.Common.{Some}
use Rattle.cv_ranges.proofs.hit.hit_touched.Given as goal

abbrev pub ghosts-hit_from : goal.ghosts-hit_from
ghosts-hit_from g a = record { opening = Some a.hits.now }
