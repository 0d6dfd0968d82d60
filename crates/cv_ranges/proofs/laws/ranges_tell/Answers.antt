use Rattle.cv_ranges.proofs.Held.{empty_holds_none, one_owner_changes, equal_are_held}
use Rattle.cv_ranges.proofs.Touched.{touched_are_hit}
use Rattle.cv_ranges.proofs.laws.ranges_tell.Goals as goal

pub returns : goal.returns
returns c = record {
  empty = empty_holds_none;
  changed = one_owner_changes;
  equal = equal_are_held;
  touched = touched_are_hit c.lists_tell.ensures.hit c.lists_tell.ensures.spared;
}
