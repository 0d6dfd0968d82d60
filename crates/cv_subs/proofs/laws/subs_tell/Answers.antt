use Rattle.cv_subs.proofs.AtNumbers.{at_with, at_without, at_changed, at_advanced}
use Rattle.cv_subs.proofs.laws.subs_tell.Goals as goal

pub returns : goal.returns
returns c = record {
  with = at_with;
  without = at_without;
  changed = at_changed;
  advanced = at_advanced;
}
