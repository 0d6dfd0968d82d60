use Rattle.fn_code.specs.CodeMeans.{Follows}
use Rattle.fn_code.specs.States.{on}
use Rattle.fn_code.specs.Weights.{weight}
use Rattle.fn_tree.specs.Course.{Course}
use Rattle.fn_vm.specs.Views.{state_view, terms_view}
use Rattle.fn_vm.proofs.run.Run.run_on.Given as goal

-- the run follows the same course as at the beginning
abbrev pub invariant-loop-stop : goal.invariant-loop-stop
invariant-loop-stop l =
    (k : Course) → Follows (terms_view l.fn.terms) l.fn.code k (on (state_view l.fn.self)) → Follows (terms_view l.terms) l.code k (on (state_view l.self))

abbrev pub decreases-loop-stop : goal.decreases-loop-stop
decreases-loop-stop l = weight (terms_view l.terms) l.code (state_view l.self)
