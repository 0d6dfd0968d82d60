use Rattle.std.proofs.Common.{◌≡◌, ◌++◌, take, drop}
use Rattle.cv_tx.specs.Merged.{goes_behind, put_among}
use Rattle.cv_tx.proofs.overlay.place_among.Given as goal

-- the document goes behind the rows so far
abbrev pub invariant-loop-at : goal.invariant-loop-at
invariant-loop-at l = put_among (goes_behind l.index l.desc) l.doc l.rows ≡ take l.at l.rows ++ put_among (goes_behind l.index l.desc) l.doc (drop l.at l.rows)
