use Rattle.std.proofs.Common.{◌≡◌, drop, option_map}
use Rattle.std.specs.Option.{option_or}
use Rattle.cv_tx.specs.Pending.{new_of}
use Rattle.cv_tx.proofs.answer.last_write.Given as goal

-- the last write so far counts where none follows
abbrev pub invariant-loop-w : goal.invariant-loop-w
invariant-loop-w l = option_or (new_of l.id (drop l.w-index l.writes)) (option_map (λ w. w.now.new) l.last) ≡ new_of l.id l.writes
