use Rattle.std.proofs.Common.{drop}
use Rattle.cv_stand.specs.EntryLines.{entry_lines}
use Rattle.cv_stand.specs.Texts.{with_feeds}
use Rattle.cv_stand.proofs.Writing.{Writing}
use Rattle.cv_stand.proofs.output.write_entries.Given as goal

-- the entries from number i on are left
abbrev pub invariant-loop-i : goal.invariant-loop-i
invariant-loop-i g l =
    Writing (with_feeds (entry_lines 0 l.core.log)) (g.K.Sink.held l.fn.out) (g.K.Sink.held l.out) (g.K.Sink.faults l.fn.out) (g.K.Sink.faults l.out)
    (with_feeds (entry_lines l.i (drop l.i l.core.log)))
