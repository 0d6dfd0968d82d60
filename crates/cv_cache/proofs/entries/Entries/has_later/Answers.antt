use Rattle.std.proofs.Common.{◌∙◌, ap, sym}
use Rattle.cv_cache.proofs.Shown.{later_is, is_later}
use Rattle.cv_cache.proofs.entries.Entries.has_later.Goals as goal

pub returns-in-Some : goal.returns-in-Some
returns-in-Some c = ap (is_later c.args.ts) c.in-Some.ensures ∙ sym (later_is c.args.query.now c.args.ts c.args.self.now.recent c.len-count.ensures.distinct)

pub returns-in-None : goal.returns-in-None
returns-in-None c = ap (is_later c.args.ts) c.in-None.ensures ∙ sym (later_is c.args.query.now c.args.ts c.args.self.now.recent c.len-count.ensures.distinct)
