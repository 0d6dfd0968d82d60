-- A run under way: a machine with its transaction, and where it pauses.
use Rattle.std.specs.Prelude.{◌≡◌, ℕ, List}
use Rattle.cv_values.specs.declared.doc.Doc.{Doc}
use Rattle.cv_run.specs.Rest.{IsRest}
use Rattle.cv_run.specs.declared.pause.Pause.{Pause}
use Rattle.cv_run.specs.declared.pause.Pause.TheVariants.{Read, End}
use Rattle.cv_store.specs.Reads.{StandsFor}
use Rattle.cv_tx.specs.Pending.{Under}
use Rattle.cv_tx.specs.Plans.{plan_of}
use Rattle.fn_code.specs.declared.code.Code.{Code}
use Rattle.fn_tree.specs.Course.{Course, Ask, done, ask}
use Rattle.fn_tree.specs.Documents.{Docs}
use Rattle.fn_tree.specs.EntryViews.{reply_view}
use Rattle.fn_tree.specs.Functions.{Start}
use Rattle.fn_tree.specs.SyntaxTree.{ModuleTree}
use Rattle.fn_vm.specs.Machines.{Goes, WaitsForRows}
use Rattle.fn_vm.specs.Moves.{Stands}
use Rattle.fn_vm.specs.declared.machine.Machine.{Machine}

-- the machine goes on by what is left of the run
pub record Runs (code : Code) (m : ModuleTree) (s : Start) (ds : Docs) (machine : Machine) (tx : Under) : Type 0 where
  pub course : Course
  pub goes : Goes code machine course
  pub rest : IsRest m s ds tx.pending tx.reads course

-- it waits for the rows of a read, and the store read is the one that the read needs
pub record AtRead (code : Code) (m : ModuleTree) (s : Start) (ds : Docs) (machine : Machine) (tx : Under) (asked : Ask) : Type 0 where
  pub next : List Doc → Course
  pub waits : WaitsForRows code machine next
  pub rest : IsRest m s ds tx.pending tx.reads (ask asked next)

-- it waits at a read, or it has ended
abbrev pub Pauses : Code → ModuleTree → Start → Docs → Machine → Under → Pause → Type 0
Pauses code m s ds machine tx (Read asked plan) =
    (q : Ask) × Stands asked q × StandsFor plan (plan_of tx.pending q) × AtRead code m s ds machine tx q
Pauses code m s ds machine tx (End reply told) =
    (cost : ℕ) × IsRest m s ds tx.pending tx.reads (done (record { reply = reply_view reply; cost = cost })) × (told ≡ reply)
