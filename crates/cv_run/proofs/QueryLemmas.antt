-- The run of a query, from pause to pause.
use Rattle.std.proofs.Common.{◌≡◌, ◌∙◌, ℕ, ◌+◌, ◌-◌, ◌≤◌, ◌<◌, List, length, refl, sym, subst, arith}
use Rattle.cv_keys.specs.declared.interval.Interval.{Interval}
use Rattle.cv_run.proofs.PauseLemmas.{is_indexed, is_readable}
use Rattle.cv_run.proofs.RestLemmas.{reads_fewer, there_rest, end_reply, end_reads, end_ends}
use Rattle.cv_run.proofs.SnapshotLaws.{ids_are_distinct}
use Rattle.cv_run.proofs.StepLemmas.{moved}
use Rattle.cv_run.proofs.StoreLemmas.{docs_stay}
use Rattle.cv_run.specs.Pauses.{AtRead, Pauses}
use Rattle.cv_run.specs.declared.pause.Pause.{Pause}
use Rattle.cv_run.specs.declared.pause.Pause.TheVariants.{Read, End}
use Rattle.cv_store.specs.Reads.{StandsFor, IsReadable}
use Rattle.cv_store.specs.Stores.{Standing, Reads, IsAnswer}
use Rattle.cv_store.specs.declared.proposal.ReadReq.{ReadReq}
use Rattle.cv_tx.specs.Asks.{IsIndexed}
use Rattle.cv_tx.specs.Pending.{Under, HasDistinctIds}
use Rattle.cv_tx.specs.Plans.{plan_of}
use Rattle.fn_code.specs.declared.code.Code.{Code}
use Rattle.fn_tree.specs.Course.{Ask as Asked}
use Rattle.fn_tree.specs.Documents.{Docs}
use Rattle.fn_tree.specs.Functions.{Start}
use Rattle.fn_tree.specs.History.{IsLegal, docs_at}
use Rattle.fn_tree.specs.Run.{run}
use Rattle.fn_tree.specs.Schemas.{schema_of}
use Rattle.fn_tree.specs.SyntaxTree.{ModuleTree}
use Rattle.fn_tree.specs.declared.entry.Reply.{Reply}
use Rattle.fn_tree.specs.declared.stop.Ask.{Ask}
use Rattle.fn_vm.specs.Moves.{Stands}
use Rattle.fn_vm.specs.declared.machine.Machine.{Machine}

module _ (code : Code) (m : ModuleTree) (s : Start) (ds : Docs) (machine : Machine) (tx : Under) where
  pub pause_indexed : (a : Ask) (plan : ReadReq) → Pauses code m s ds machine tx (Read a plan) → IsIndexed (schema_of m.tables) a
  pause_indexed a plan p = is_indexed (schema_of m.tables) a p.0 p.1 (there_rest m s ds tx.pending tx.reads p.0 p.3.next p.3.rest)

  pub pause_readable : (a : Ask) (plan : ReadReq) → Pauses code m s ds machine tx (Read a plan) → IsReadable (schema_of m.tables) plan
  pause_readable a plan p = is_readable (schema_of m.tables) plan tx.pending p.0 p.2 (there_rest m s ds tx.pending tx.reads p.0 p.3.next p.3.rest)

  pub pause_smaller : (a : Ask) (plan : ReadReq) (n : ℕ) → n ≡ length tx.reads + 1 → Pauses code m s ds machine tx (Read a plan) → length (run m s ds).reads - n < length (run m s ds).reads - length tx.reads
  pause_smaller a plan n one p =
      let fewer = reads_fewer m s ds tx.pending tx.reads p.0 p.3.next p.3.rest in
      omega (arith, one, fewer)

  pub end_answer : (reply told : Reply) (reads : List Interval) → reads ≡ tx.reads → Pauses code m s ds machine tx (End reply told) → IsAnswer (run m s ds) reply reads
  end_answer reply told reads same p = record {
    same_reply = end_reply m s ds tx.pending tx.reads reply p.0 p.1;
    same_reads = same ∙ end_reads m s ds tx.pending tx.reads reply p.0 p.1;
    ends = end_ends m s ds tx.pending tx.reads reply p.0 p.1;
  }

-- behind a read the run of a query pauses again, on the documents of the beginning
pub query_again : (s : Start) (code : Code) (a b : Standing) (ts : ℕ) (machine after : Machine) (tx read : Under) (asked : Ask) (plan : ReadReq) (next : Pause)
    → IsLegal a.program a.seen → Reads a b → ts ≤ length a.seen
    → ((x : Start) (q : Asked) → HasDistinctIds (docs_at b.seen ts) → Stands asked q → StandsFor plan (plan_of tx.pending q)
    → AtRead code b.program x (docs_at b.seen ts) machine tx q → Pauses code b.program x (docs_at b.seen ts) after read next)
    → Pauses code a.program s (docs_at a.seen ts) machine tx (Read asked plan) → Pauses code a.program s (docs_at a.seen ts) after read next
query_again s code a b ts machine after tx read asked plan next legal on le goes p =
    let stay : docs_at b.seen ts ≡ docs_at a.seen ts = docs_stay a.seen b.seen ts on.extends.seen le in
    let distinct : HasDistinctIds (docs_at b.seen ts) = subst HasDistinctIds (sym stay) (ids_are_distinct a.program a.seen legal ts) in
    let there : Pauses code b.program s (docs_at b.seen ts) machine tx (Read asked plan) =
    moved s machine tx (Read asked plan) code code a.program b.program (docs_at a.seen ts) (docs_at b.seen ts) refl (sym on.extends.program) (sym stay) p in
    moved s after read next code code b.program a.program (docs_at b.seen ts) (docs_at a.seen ts) refl on.extends.program stay
    (goes s there.0 distinct there.1 there.2 there.3)
