-- The run of a call over what its store had seen, where it pauses between two steps.
use Rattle.std.specs.Prelude.{◌≡◌, ℕ, ◌≤◌, length}
use Rattle.cv_run.specs.Pauses.{Pauses}
use Rattle.cv_run.specs.declared.pause.Pause.{Pause}
use Rattle.cv_tx.specs.Pending.{Under, HasDistinctIds}
use Rattle.fn_code.specs.Coding.{code_of}
use Rattle.fn_tree.specs.History.{History, start_of, docs_at}
use Rattle.fn_tree.specs.SyntaxTree.{ModuleTree}
use Rattle.fn_tree.specs.declared.entry.Call.{Call}
use Rattle.fn_vm.specs.declared.machine.Machine.{Machine}

pub record IsPaused (m : ModuleTree) (h : History) (call : Call) (ts : ℕ) (machine : Machine) (tx : Under) (pause : Pause) : Type 0 where
  pub snapshot : tx.snapshot ≡ ts
  pub within : ts ≤ length h
  pub distinct : HasDistinctIds (docs_at h ts)
  pub pauses : Pauses (code_of m) m (start_of call) (docs_at h ts) machine tx pause
