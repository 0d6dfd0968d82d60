-- A machine that is driven over a list of documents.
use Rattle.std.specs.Prelude.{◌≡◌, ℕ, ◌+◌, List, [], ◌∷◌, ◌++◌, length, Option, Some, None}
use Rattle.cv_keys.specs.declared.interval.Interval.{Interval}
use Rattle.cv_keys.specs.declared.schema.Schema.{Schema}
use Rattle.fn_code.specs.declared.code.Code.{Code}
use Rattle.fn_plain.specs.States.{End, after_reads}
use Rattle.fn_tree.specs.Course.{Course, done, ask, put}
use Rattle.fn_tree.specs.Documents.{Docs}
use Rattle.fn_tree.specs.Run.{played, with_puts}
use Rattle.fn_tree.specs.Scan.{answer}
use Rattle.fn_tree.specs.declared.stop.Outcome.{Outcome}
use Rattle.fn_tree.specs.declared.stop.Put.{Put}
use Rattle.fn_vm.specs.Machines.{Goes}
use Rattle.fn_vm.specs.Views.{outcome_view}
use Rattle.fn_trial.specs.declared.machine_run.Drive.{Drive}

-- how many reads and writes a course still makes on these documents, after these puts
abbrev pub stops : Schema → Docs → List Put → Course → ℕ
stops schema ds puts (done o) = 0
stops schema ds puts (put p next) = stops schema ds (puts ++ p ∷ []) next + 1
stops schema ds puts (ask q next) = stops schema ds puts (next (answer schema (with_puts puts ds) q).docs) + 1

-- how a course ends that is followed after these puts and reads
abbrev pub ends_after : Schema → Docs → List Put → List Interval → Course → End
ends_after schema ds puts reads k = after_reads reads (played schema ds puts k)

-- after these puts and reads, what is left is the rest of the whole course
pub record IsRest (schema : Schema) (ds : Docs) (puts : List Put) (reads : List Interval) (whole k : Course) : Type 0 where
  pub same : ends_after schema ds [] [] whole ≡ ends_after schema ds puts reads k
  pub counted : stops schema ds [] whole ≡ length puts + length reads + stops schema ds puts k

-- how many stops are behind
abbrev pub behind : Drive → ℕ
behind d = length d.puts.items + length d.reads.items

-- the machine goes by the rest of the whole course
abbrev pub Drives : Code → Schema → Docs → (whole : Course) → Drive → Type 0
Drives code schema ds whole d = (k : Course) × Goes code d.machine k × IsRest schema ds d.puts.items d.reads.items whole k

-- it goes by the rest of some course
abbrev pub CanGoOn : Code → Schema → Docs → Drive → Type 0
CanGoOn code schema ds d = (whole : Course) × Drives code schema ds whole d

-- the rest of the whole course is this outcome
abbrev pub Ends : Schema → Docs → (whole : Course) → Drive → Outcome → Type 0
Ends schema ds whole d o = IsRest schema ds d.puts.items d.reads.items whole (done (outcome_view o))

-- one stop more is behind
pub record OneMore (code : Code) (schema : Schema) (ds : Docs) (whole : Course) (before after : Drive) : Type 0 where
  pub drives : Drives code schema ds whole after
  pub more : behind after ≡ behind before + 1

-- a step goes over one stop, or comes to the outcome
abbrev pub Steps : Code → Schema → Docs → (whole : Course) → (before after : Drive) → Option Outcome → Type 0
Steps code schema ds whole before after None = OneMore code schema ds whole before after
Steps code schema ds whole before after (Some o) = Ends schema ds whole after o
