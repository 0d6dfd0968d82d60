use Rattle.std.proofs.Common.{◌≡◌, drop}
use Rattle.cv_keys.specs.Places.{PlaceInterval}
use Rattle.cv_tx.specs.Asks.{IsBytesOf}
use Rattle.cv_tx.specs.Merged.{with_writes}
use Rattle.cv_tx.proofs.overlay.overlaid.Given as goal

-- the writes to come over the rows now are all writes over the rows at first
abbrev pub invariant-loop-w : goal.invariant-loop-w
invariant-loop-w l = (p : PlaceInterval) → IsBytesOf p l.i → with_writes l.index p l.desc (drop l.w-index l.writes) l.rows.items ≡ with_writes l.index p l.desc l.writes l.initial.rows.items
