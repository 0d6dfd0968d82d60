use Rattle.cv_tx.proofs.PendingLaws.{pending_is_true, pending_is_seen, pending_is_written}
use Rattle.cv_tx.proofs.laws.pending_writes_are_the_puts.Goals as goal

pub returns : goal.returns
returns c = record { truth = pending_is_true; seen = pending_is_seen; written = pending_is_written }
