use Rattle.cv_cache.proofs.Shown.{shown_cache}
use Rattle.cv_cache.proofs.entries.Entries.stands_well.Goals as goal

pub returns : goal.returns
returns c = shown_cache c.args.self.now.recent c.len.ensures
