use Rattle.std.proofs.Common.{◌≡◌, drop}
use Rattle.cv_docs.specs.Cut.{ending}
use Rattle.cv_flat.specs.Parts.{rows_of}
use Rattle.cv_flat.proofs.gather.take_up.Given as goal

abbrev pub invariant-loop-at : goal.invariant-loop-at
invariant-loop-at l =
    ending l.taken (rows_of l.docs.docs l.ts (drop l.at l.entries)) ≡ ending l.initial.taken (rows_of l.docs.docs l.ts l.entries)
