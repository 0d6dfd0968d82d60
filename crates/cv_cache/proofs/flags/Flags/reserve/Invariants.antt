use Rattle.std.proofs.Common.{◌≡◌, ◌-◌, ◌≤◌, length}
use Rattle.cv_cache.specs.Flags.{AreDown}
use Rattle.cv_cache.proofs.flags.Flags.reserve.Given as goal

abbrev pub invariant-loop-self : goal.invariant-loop-self
invariant-loop-self l = record {
  longer : length l.initial.self.up.items ≤ length l.self.up.items;
  down : AreDown l.initial.self.up.items → AreDown l.self.up.items;
  any : l.self.any ≡ l.initial.self.any;
}

abbrev pub decreases-loop-self : goal.decreases-loop-self
decreases-loop-self l = l.count - length l.self.up.items
