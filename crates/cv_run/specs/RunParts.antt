-- What the parts of a run do between two pauses, whatever run it is.
use Rattle.std.specs.Prelude.{◌≡◌, ℕ, List, Result, IfOk, OnOk}
use Rattle.cv_values.specs.declared.doc.Doc.{Doc}
use Rattle.cv_keys.specs.declared.schema.Schema.{Schema}
use Rattle.cv_run.specs.Pauses.{Runs, AtRead, Pauses}
use Rattle.cv_run.specs.Rest.{IsRest}
use Rattle.cv_run.specs.declared.pause.Pause.{Pause}
use Rattle.cv_store.specs.Reads.{StandsFor, read_from}
use Rattle.cv_store.specs.Stores.{Standing}
use Rattle.cv_store.specs.declared.proposal.ReadReq.{ReadReq}
use Rattle.cv_tx.specs.Pending.{HasDistinctIds, Under}
use Rattle.cv_tx.specs.Plans.{plan_of}
use Rattle.fn_code.specs.declared.code.Code.{Code}
use Rattle.fn_tree.specs.Course.{Course, Ask, done, put}
use Rattle.fn_tree.specs.Documents.{Docs}
use Rattle.fn_tree.specs.Functions.{Start}
use Rattle.fn_tree.specs.History.{docs_at}
use Rattle.fn_tree.specs.Schemas.{schema_of}
use Rattle.fn_tree.specs.SyntaxTree.{ModuleTree}
use Rattle.fn_tree.specs.declared.stop.Ask.{Ask as HeldAsk}
use Rattle.fn_tree.specs.declared.stop.Outcome.{Outcome}
use Rattle.fn_tree.specs.declared.stop.Put.{Put}
use Rattle.fn_vm.specs.Machines.{Goes, WaitsForPut}
use Rattle.fn_vm.specs.Moves.{Stands}
use Rattle.fn_vm.specs.Views.{outcome_view}
use Rattle.fn_vm.specs.declared.machine.Machine.{Machine}

-- a machine that waited for a put goes on behind it
abbrev pub GoesBehindPut : {T E : Type 0} → (machine gone : Machine) → (tx laid : Under) → Put → Result T E → Type 0
GoesBehindPut machine gone tx laid p result =
    (code : Code) (m : ModuleTree) (s : Start) (ds : Docs) (next : Course) → WaitsForPut code machine next → IsRest m s ds tx.pending tx.reads (put p next)
    → OnOk result (Runs code m s ds gone laid)

-- a machine that waits for the rows of a read pauses there
abbrev pub PausesAtRead : {E : Type 0} → HeldAsk → Under → Result Pause E → Type 0
PausesAtRead asked tx result =
    (code : Code) (m : ModuleTree) (s : Start) (ds : Docs) (machine : Machine) (q : Ask) → Stands asked q → AtRead code m s ds machine tx q
    → IfOk result (λ p. Pauses code m s ds machine tx p)

-- a run that has ended pauses at its end
abbrev pub PausesAtEnd : {E : Type 0} → Outcome → Result Pause E → Type 0
PausesAtEnd outcome result =
    (code : Code) (m : ModuleTree) (s : Start) (ds : Docs) (machine : Machine) (tx : Under) → IsRest m s ds tx.pending tx.reads (done (outcome_view outcome))
    → IfOk result (λ p. Pauses code m s ds machine tx p)

-- a run goes on to its next pause
abbrev pub GoesToPause : {E : Type 0} → Code → (machine gone : Machine) → (tx after : Under) → Result Pause E → Type 0
GoesToPause code machine gone tx after result =
    (m : ModuleTree) (s : Start) (ds : Docs) → Runs code m s ds machine tx → IfOk result (λ p. Pauses code m s ds gone after p)

-- a machine that waited for these rows goes on with them
abbrev pub GoesOnWithRows : {T E : Type 0} → Schema → HeldAsk → (rows : List Doc) → (machine gone : Machine) → (tx read : Under) → Result T E → Type 0
GoesOnWithRows schema asked rows machine gone tx read result =
    (code : Code) (m : ModuleTree) (s : Start) (ds : Docs) (q : Ask) → schema ≡ schema_of m.tables → HasDistinctIds ds → Stands asked q
    → AtRead code m s ds machine tx q → rows ≡ read_from schema ds (plan_of tx.pending q) → OnOk result (Runs code m s ds gone read)

-- a run over the documents of a timestamp goes on from a read to its next pause
abbrev pub GoesOnFromRead : {E : Type 0} → Code → Standing → (ts : ℕ) → HeldAsk → ReadReq → (machine gone : Machine) → (tx read : Under) → Result Pause E → Type 0
GoesOnFromRead code store ts asked plan machine gone tx read result =
    (s : Start) (q : Ask) → HasDistinctIds (docs_at store.seen ts) → Stands asked q → StandsFor plan (plan_of tx.pending q)
    → AtRead code store.program s (docs_at store.seen ts) machine tx q → IfOk result (λ p. Pauses code store.program s (docs_at store.seen ts) gone read p)
