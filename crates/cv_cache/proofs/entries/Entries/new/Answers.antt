use Rattle.cv_cache.proofs.Tied.{new_well}
use Rattle.cv_cache.proofs.entries.Entries.new.Goals as goal

pub returns-clause-well : goal.returns-clause-well
returns-clause-well c = new_well _ c.ranges_tell.ensures.empty c.in_ok-new.ensures c.new-2.ensures.none c.new-3.ensures c.new-2.ensures.flagged
