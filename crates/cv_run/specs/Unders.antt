-- What a job means that isn't at a begin.
use Rattle.std.specs.Prelude.{Option, option_map, length}
use Rattle.cv_run.specs.declared.attempt.Attempt.{Attempt}
use Rattle.cv_run.specs.declared.run_job.RunJob.{RunJob}
use Rattle.cv_store.specs.Jobs.{Under}
use Rattle.fn_tree.specs.SyntaxTree.{ModuleTree}
use Rattle.fn_tree.specs.SyntaxViews.{module_view}

-- the program of the job's begin
abbrev pub program_of : Attempt → ModuleTree
program_of a = module_view a.meant.tree

abbrev pub under_attempt : Attempt → Under
under_attempt a = record { program = program_of a; call = a.call; snapshot = a.snapshot; reads = length a.tx.reads; seen = a.seen.history }

abbrev pub under_job : RunJob → Option Under
under_job j = option_map under_attempt j.attempt
