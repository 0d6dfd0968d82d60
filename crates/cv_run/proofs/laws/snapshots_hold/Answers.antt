use Rattle.cv_run.proofs.SnapshotLaws.{ids_are_distinct, new_calls_are_fresh, snapshots_stay}
use Rattle.cv_run.proofs.laws.snapshots_hold.Goals as goal

pub returns : goal.returns
returns c = record { distinct = ids_are_distinct; fresh = new_calls_are_fresh; stay = snapshots_stay }
