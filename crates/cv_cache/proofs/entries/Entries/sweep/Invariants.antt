use Rattle.std.proofs.Common.{◌≡◌, length}
use Rattle.cv_cache.proofs.Swept.{up_to, AreLowered}
use Rattle.cv_cache.specs.Flags.{is_up}
use Rattle.cv_cache.specs.Recent.{untouched}
use Rattle.cv_cache.specs.Ties.{IsTied}
use Rattle.cv_cache.proofs.entries.Entries.sweep.Given as goal

abbrev pub invariant-loop-number : goal.invariant-loop-number
invariant-loop-number l = record {
  entries : l.self.recent ≡ untouched (up_to (is_up l.initial.self.owners.flags.up.items) l.number) l.initial.self.recent;
  tied : IsTied l.self.recent l.self.owners.queries l.self.ranges;
  flags : AreLowered l.initial.self.owners.flags.up.items l.self.owners.flags.up.items l.number;
  size : length l.self.owners.flags.up.items ≡ length l.initial.self.owners.flags.up.items;
  slots : length l.self.owners.queries.slots ≡ length l.initial.self.owners.queries.slots;
}
