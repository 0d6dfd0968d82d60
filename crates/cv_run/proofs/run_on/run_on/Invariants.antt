use Rattle.std.proofs.Common.{◌≡◌}
use Rattle.cv_run.specs.Pauses.{Runs}
use Rattle.fn_tree.specs.Documents.{Docs}
use Rattle.fn_tree.specs.Functions.{Start}
use Rattle.fn_tree.specs.SyntaxTree.{ModuleTree}
use Rattle.cv_run.proofs.run_on.run_on.Given as goal

-- the run goes on by the rest of what it began with, and it has read nothing more
abbrev pub invariant-loop : goal.invariant-loop
invariant-loop l =
    ((m : ModuleTree) (s : Start) (ds : Docs) → Runs l.fn.code m s ds l.fn.machine l.fn.tx → Runs l.code m s ds l.machine l.tx)
    × (l.tx.snapshot ≡ l.fn.tx.snapshot) × (l.tx.reads ≡ l.fn.tx.reads)
