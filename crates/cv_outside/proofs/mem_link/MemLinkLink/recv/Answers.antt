use Rattle.std.proofs.Common.{rules}
use Rattle.cv_outside.proofs.mem_link.MemLinkLink.recv.Goals as goal

pub returns-in-Some-clause-ok : goal.returns-in-Some-clause-ok
returns-in-Some-clause-ok c = ((c.take.new.self.texts, search rules, search rules), search rules, search rules)
