use Rattle.std.proofs.Common.{◌≡◌, ◌++◌, [], take, drop}
use Rattle.fn_tree.specs.Run.{writes_to}
use Rattle.fn_plain.proofs.runs.writes_of.Given as goal

-- the writes so far, and then those of the puts that are left
abbrev pub invariant-loop-at : goal.invariant-loop-at
invariant-loop-at l = l.writes ++ writes_to l.before l.after (take l.at l.puts) (drop l.at l.puts) ≡ writes_to l.before l.after [] l.puts
