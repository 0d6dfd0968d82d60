use Rattle.std.proofs.Common.{◌≡◌, ◌++◌, take, drop}
use Rattle.fn_tree.specs.Rows.{placed_in, row_cmp}
use Rattle.fn_plain.proofs.scan.place_among.Given as goal

-- the document's place isn't before the rows so far
abbrev pub invariant-loop-at : goal.invariant-loop-at
invariant-loop-at l = placed_in (row_cmp l.index) l.doc l.rows ≡ take l.at l.rows ++ placed_in (row_cmp l.index) l.doc (drop l.at l.rows)
