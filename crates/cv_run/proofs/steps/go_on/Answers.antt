use Rattle.std.proofs.Common.{◌≡◌, ◌∙◌, ◌+◌, length, refl, sym, ap, subst}
use Rattle.cv_run.proofs.StepLemmas.{within_of, indexed_of, readable_of, fewer_later, all_later, told_of, snapshot_of, is_run_of, paused_again, under_same, step_reads, step_commits, due_read, due_commit}
use Rattle.cv_run.proofs.StoreLemmas.{longer, err_known}
use Rattle.cv_run.specs.Paused.{IsPaused}
use Rattle.cv_run.specs.Unders.{under_attempt, program_of}
use Rattle.cv_run.specs.declared.pause.Pause.{Pause}
use Rattle.cv_store.specs.Jobs.{Under}
use Rattle.cv_store.specs.Reads.{IsReadable}
use Rattle.cv_store.specs.Stores.{GoesOn}
use Rattle.cv_store.specs.declared.proposal.Proposal.{Proposal}
use Rattle.cv_tx.specs.Asks.{IsIndexed}
use Rattle.fn_code.specs.Coding.{code_of}
use Rattle.fn_tree.specs.History.{History}
use Rattle.fn_tree.specs.Schemas.{schema_of}
use Rattle.fn_tree.specs.SyntaxTree.{ModuleTree}
use Rattle.cv_run.proofs.steps.go_on.Goals as goal

pub read_on-requires-clause-seen : goal.read_on-requires-clause-seen
read_on-requires-clause-seen g c =
    let a = c.args.attempt in
    longer a.seen.history (g.S.Store.stands c.args.store.now).seen a.snapshot c.requires.over
    (within_of (program_of a) a.seen.history a.call a.snapshot a.machine a.tx a.pause a.paused)

pub read_on-requires-clause-readable : goal.read_on-requires-clause-readable
read_on-requires-clause-readable g c =
    let a = c.args.attempt in
    let paused = subst (λ (p : Pause). ∥ IsPaused (program_of a) a.seen.history a.call a.snapshot a.machine a.tx p ∥₁) c.in-Read.is a.paused in
    subst (λ (m : ModuleTree). IsReadable (schema_of m.tables) c.in-Read.plan) c.requires.same
    (readable_of (program_of a) a.seen.history a.call a.snapshot a.machine a.tx c.in-Read.ask c.in-Read.plan paused)

pub read_on-requires-clause-indexed : goal.read_on-requires-clause-indexed
read_on-requires-clause-indexed g c =
    let a = c.args.attempt in
    let paused = subst (λ (p : Pause). ∥ IsPaused (program_of a) a.seen.history a.call a.snapshot a.machine a.tx p ∥₁) c.in-Read.is a.paused in
    subst (λ (m : ModuleTree). IsIndexed (schema_of m.tables) c.in-Read.ask) c.requires.same
    (indexed_of (program_of a) a.seen.history a.call a.snapshot a.machine a.tx c.in-Read.ask c.in-Read.plan paused)

pub invariant_of-after : goal.invariant_of-after
invariant_of-after g c =
    let a = c.args.attempt in
    let p = c.args.program.now in
    let s = g.S.Store.stands c.args.store.now in
    let paused = subst (λ (x : Pause). ∥ IsPaused (program_of a) a.seen.history a.call a.snapshot a.machine a.tx x ∥₁) c.in-Read.is a.paused in
    let later = subst (λ (h : History). GoesOn s.seen h) (sym c.of-seen.ensures) c.read_on.ensures.store.extends.seen in
    record {
      paused = paused_again (program_of a) a.seen.history a.call a.snapshot a.machine a.tx c.in-Read.ask c.in-Read.plan (program_of a) p.code s c.of-seen.result.history
          c.read_on.new.machine c.read_on.new.tx c.in_ok-pause-in-Read.pause c.requires.same c.requires.same (p.compiled ∙ ap code_of (c.requires.program ∙ sym c.requires.same)) c.requires.over
          later c.read_on.ensures.snapshot c.in_ok-pause-in-Read.ensures.ok paused;
    }

pub returns-in_ok-pause-in-Read-clause-ok : goal.returns-in_ok-pause-in-Read-clause-ok
returns-in_ok-pause-in-Read-clause-ok g c runs =
    let a = c.args.attempt in
    let s = g.S.Store.stands c.args.store.now in
    let t = g.S.Store.stands c.read_on.new.store in
    let u = under_attempt a in
    let paused = subst (λ (x : Pause). ∥ IsPaused (program_of a) a.seen.history a.call a.snapshot a.machine a.tx x ∥₁) c.in-Read.is a.paused in
    let after : Under = record { program = program_of a; call = a.call; snapshot = a.snapshot; reads = length c.read_on.new.tx.reads; seen = c.of-seen.result.history } in
    step_reads s t a.call u after runs
    (fewer_later (program_of a) a.seen.history a.call a.snapshot a.machine a.tx c.in-Read.ask c.in-Read.plan s c.requires.same c.requires.over paused)
    c.read_on.ensures.store c.in_ok-pause-in-Read.ensures.turn
    (under_same after (program_of a) a.call (length a.tx.reads + 1) t.seen refl refl c.in_ok-pause-in-Read.ensures.reads c.of-seen.ensures)

pub returns-in_err-pause-in-Read-clause-turns : goal.returns-in_err-pause-in-Read-clause-turns
returns-in_err-pause-in-Read-clause-turns g c =
    let a = c.args.attempt in
    let s = g.S.Store.stands c.args.store.now in
    let t = g.S.Store.stands c.read_on.new.store in
    let paused = subst (λ (x : Pause). ∥ IsPaused (program_of a) a.seen.history a.call a.snapshot a.machine a.tx x ∥₁) c.in-Read.is a.paused in
    err_known c.from_residual.result
    (due_read s t (under_attempt a) (fewer_later (program_of a) a.seen.history a.call a.snapshot a.machine a.tx c.in-Read.ask c.in-Read.plan s c.requires.same c.requires.over paused)
    c.in_err-pause-in-Read.ensures.turn)

pub commit-requires-clause-run : goal.commit-requires-clause-run
commit-requires-clause-run g c =
    let a = c.args.attempt in
    let paused = subst (λ (p : Pause). ∥ IsPaused (program_of a) a.seen.history a.call a.snapshot a.machine a.tx p ∥₁) c.in-End.is a.paused in
    is_run_of (program_of a) a.seen.history a.call a.snapshot a.machine a.tx c.in-End.reply c.in-End.told (g.S.Store.stands c.args.store.now) c.propose.result
    c.requires.same c.requires.over c.propose.ensures paused

pub commit-requires-clause-reply : goal.commit-requires-clause-reply
commit-requires-clause-reply g c =
    let a = c.args.attempt in
    let paused = subst (λ (p : Pause). ∥ IsPaused (program_of a) a.seen.history a.call a.snapshot a.machine a.tx p ∥₁) c.in-End.is a.paused in
    told_of (program_of a) a.seen.history a.call a.snapshot a.machine a.tx c.in-End.reply c.in-End.told paused ∙ sym (ap (λ (p : Proposal). p.reply) c.propose.ensures)

pub returns-in_ok-went-in-End-clause-ok : goal.returns-in_ok-went-in-End-clause-ok
returns-in_ok-went-in-End-clause-ok g c runs =
    let a = c.args.attempt in
    let s = g.S.Store.stands c.args.store.now in
    let t = g.S.Store.stands c.commit.new.store in
    let paused = subst (λ (p : Pause). ∥ IsPaused (program_of a) a.seen.history a.call a.snapshot a.machine a.tx p ∥₁) c.in-End.is a.paused in
    step_commits s t a.call (under_attempt a) runs c.propose.result c.in_ok-went-in-End.went
    (all_later (program_of a) a.seen.history a.call a.snapshot a.machine a.tx c.in-End.reply c.in-End.told s c.requires.same c.requires.over paused)
    (is_run_of (program_of a) a.seen.history a.call a.snapshot a.machine a.tx c.in-End.reply c.in-End.told s c.propose.result c.requires.same c.requires.over c.propose.ensures paused)
    (ap (λ (p : Proposal). p.call) c.propose.ensures)
    (ap (λ (p : Proposal). p.snapshot) c.propose.ensures ∙ snapshot_of (program_of a) a.seen.history a.call a.snapshot a.machine a.tx a.pause a.paused)
    c.in_ok-went-in-End.ensures.ok c.in_ok-went-in-End.ensures.turn

pub returns-in_err-went-in-End-clause-turns : goal.returns-in_err-went-in-End-clause-turns
returns-in_err-went-in-End-clause-turns g c =
    let a = c.args.attempt in
    let s = g.S.Store.stands c.args.store.now in
    let t = g.S.Store.stands c.commit.new.store in
    let paused = subst (λ (p : Pause). ∥ IsPaused (program_of a) a.seen.history a.call a.snapshot a.machine a.tx p ∥₁) c.in-End.is a.paused in
    err_known c.from_residual-in_err-went-in-End.result
    (due_commit s t (under_attempt a) (all_later (program_of a) a.seen.history a.call a.snapshot a.machine a.tx c.in-End.reply c.in-End.told s c.requires.same c.requires.over paused)
    c.in_err-went-in-End.ensures.turn)
