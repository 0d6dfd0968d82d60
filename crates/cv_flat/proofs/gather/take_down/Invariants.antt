use Rattle.std.proofs.Common.{◌≡◌, List, ◌++◌, drop, reverse}
use Rattle.cv_values.specs.declared.doc.Doc.{Doc}
use Rattle.cv_docs.specs.Cut.{ending}
use Rattle.cv_flat.specs.Parts.{rows_of}
use Rattle.cv_flat.proofs.gather.take_down.Given as goal

abbrev pub invariant-loop-at : goal.invariant-loop-at
invariant-loop-at l =
    (ds : List Doc) → ending l.taken ds ≡ ending l.initial.taken (reverse (rows_of l.docs.docs l.ts (drop l.at l.entries)) ++ ds)
