use Rattle.std.proofs.Common.{◌≡◌, drop}
use Rattle.fn_tree.specs.Names.{at_name}
use Rattle.fn_code.proofs.known.Known.helper.Given as goal

abbrev pub invariant-loop-other : goal.invariant-loop-other
invariant-loop-other l = at_name l.name (drop l.other-index l.self.helpers) ≡ at_name l.name l.self.helpers
