use Rattle.std.proofs.Common.{◌∙◌, length, sym, subst}
use Rattle.cv_run.proofs.QueryLemmas.{pause_indexed, pause_readable, pause_smaller, end_answer, query_again}
use Rattle.cv_run.proofs.StoreLemmas.{longer, reads_then, only_none, only_then, reads_only}
use Rattle.cv_run.specs.Pauses.{Pauses}
use Rattle.cv_run.specs.declared.pause.Pause.{Pause}
use Rattle.cv_store.specs.Reads.{IsReadable}
use Rattle.cv_tx.specs.Asks.{IsIndexed}
use Rattle.fn_tree.specs.History.{query_start, docs_at}
use Rattle.fn_tree.specs.Schemas.{schema_of}
use Rattle.fn_tree.specs.SyntaxTree.{ModuleTree}
use Rattle.cv_run.proofs.answer.run_query.Goals as goal

pub read_on-requires-clause-program : goal.read_on-requires-clause-program
read_on-requires-clause-program g c = c.requires.program ∙ sym c.loop-pause.invariant.reads.extends.program

pub read_on-requires-clause-seen : goal.read_on-requires-clause-seen
read_on-requires-clause-seen g c =
    longer (g.S.Store.stands c.args.store.now).seen (g.S.Store.stands c.loop-pause.store).seen c.args.ts c.loop-pause.invariant.reads.extends.seen c.requires.seen

pub read_on-requires-clause-readable : goal.read_on-requires-clause-readable
read_on-requires-clause-readable g c =
    let store = g.S.Store.stands c.args.store.now in
    let s = query_start c.args.query.now.udf c.args.query.now.args in
    let ds = docs_at store.seen c.args.ts in
    let paused = subst (λ (p : Pause). Pauses c.args.program.now.code store.program s ds c.loop-pause.machine c.loop-pause.tx p) c.in-Read.is c.loop-pause.invariant.pauses in
    subst (λ (m : ModuleTree). IsReadable (schema_of m.tables) c.in-Read.plan) (sym c.loop-pause.invariant.reads.extends.program)
    (pause_readable c.args.program.now.code store.program s ds c.loop-pause.machine c.loop-pause.tx c.in-Read.ask c.in-Read.plan paused)

pub read_on-requires-clause-indexed : goal.read_on-requires-clause-indexed
read_on-requires-clause-indexed g c =
    let store = g.S.Store.stands c.args.store.now in
    let s = query_start c.args.query.now.udf c.args.query.now.args in
    let ds = docs_at store.seen c.args.ts in
    let paused = subst (λ (p : Pause). Pauses c.args.program.now.code store.program s ds c.loop-pause.machine c.loop-pause.tx p) c.in-Read.is c.loop-pause.invariant.pauses in
    subst (λ (m : ModuleTree). IsIndexed (schema_of m.tables) c.in-Read.ask) (sym c.loop-pause.invariant.reads.extends.program)
    (pause_indexed c.args.program.now.code store.program s ds c.loop-pause.machine c.loop-pause.tx c.in-Read.ask c.in-Read.plan paused)

pub loop-pause-init : goal.loop-pause-init
loop-pause-init g c =
    let store = g.S.Store.stands c.args.store.now in
    let p = c.args.program.now in
    let s = query_start c.args.query.now.udf c.args.query.now.args in
    let ds = docs_at store.seen c.args.ts in
    let r = c.in_ok-machine in
    record {
      reads = c.stands_well.ensures;
      pauses = subst (λ (m : ModuleTree). Pauses p.code m s ds r.machine r.tx r.pause) c.requires.program (c.in_ok-machine.ensures.ok ds tt);
      runs = c.in_ok-machine.ensures.runs;
      turns = only_none store.turns;
    }

pub loop-pause-preserved-in_ok-pause-in-Read : goal.loop-pause-preserved-in_ok-pause-in-Read
loop-pause-preserved-in_ok-pause-in-Read g c =
    let store = g.S.Store.stands c.args.store.now in
    let now = g.S.Store.stands c.loop-pause.store in
    let after = g.S.Store.stands c.read_on.new.store in
    let code = c.args.program.now.code in
    let s = query_start c.args.query.now.udf c.args.query.now.args in
    let ds = docs_at store.seen c.args.ts in
    let l = c.loop-pause in
    let paused = subst (λ (p : Pause). Pauses code store.program s ds l.machine l.tx p) c.in-Read.is l.invariant.pauses in
    record {
      reads = reads_then store now after l.invariant.reads c.read_on.ensures.store;
      pauses = query_again s code store now c.args.ts l.machine c.read_on.new.machine l.tx c.read_on.new.tx c.in-Read.ask c.in-Read.plan c.in_ok-pause-in-Read.pause
          c.stands_well.ensures.extends.legal l.invariant.reads c.requires.seen c.in_ok-pause-in-Read.ensures.ok paused;
      runs = l.invariant.runs;
      turns = only_then store.turns now.turns after.turns l.invariant.turns (reads_only c.read_on.result now.turns after.turns c.read_on.ensures.turn);
    }

pub loop-pause-preserved : goal.loop-pause-preserved
loop-pause-preserved g c =
    let store = g.S.Store.stands c.args.store.now in
    let now = g.S.Store.stands c.loop-pause.store in
    let after = g.S.Store.stands c.read_on.new.store in
    let code = c.args.program.now.code in
    let s = query_start c.args.query.now.udf c.args.query.now.args in
    let ds = docs_at store.seen c.args.ts in
    let l = c.loop-pause in
    let paused = subst (λ (p : Pause). Pauses code store.program s ds l.machine l.tx p) c.in-Read.is l.invariant.pauses in
    record {
      reads = reads_then store now after l.invariant.reads c.read_on.ensures.store;
      pauses = query_again s code store now c.args.ts l.machine c.read_on.new.machine l.tx c.read_on.new.tx c.in-Read.ask c.in-Read.plan c.in_ok-pause-in-Read.pause
          c.stands_well.ensures.extends.legal l.invariant.reads c.requires.seen c.in_ok-pause-in-Read.ensures.ok paused;
      runs = l.invariant.runs;
      turns = only_then store.turns now.turns after.turns l.invariant.turns (reads_only c.read_on.result now.turns after.turns c.read_on.ensures.turn);
    }

pub returns-in-End-clause-ok : goal.returns-in-End-clause-ok
returns-in-End-clause-ok g c =
    let store = g.S.Store.stands c.args.store.now in
    let code = c.args.program.now.code in
    let s = query_start c.args.query.now.udf c.args.query.now.args in
    let ds = docs_at store.seen c.args.ts in
    let l = c.loop-pause in
    let paused = subst (λ (p : Pause). Pauses code store.program s ds l.machine l.tx p) c.in-End.is l.invariant.pauses in
    end_answer code store.program s ds l.machine l.tx c.in-End.reply c.in-End.told c.into_reads.result c.into_reads.ensures paused

pub loop-pause-smaller-in_ok-pause-in-Read : goal.loop-pause-smaller-in_ok-pause-in-Read
loop-pause-smaller-in_ok-pause-in-Read g c =
    let store = g.S.Store.stands c.args.store.now in
    let code = c.args.program.now.code in
    let s = query_start c.args.query.now.udf c.args.query.now.args in
    let ds = docs_at store.seen c.args.ts in
    let l = c.loop-pause in
    let paused = subst (λ (p : Pause). Pauses code store.program s ds l.machine l.tx p) c.in-Read.is l.invariant.pauses in
    pause_smaller code store.program s ds l.machine l.tx c.in-Read.ask c.in-Read.plan (length c.read_on.new.tx.reads) c.in_ok-pause-in-Read.ensures.reads paused

pub loop-pause-smaller : goal.loop-pause-smaller
loop-pause-smaller g c =
    let store = g.S.Store.stands c.args.store.now in
    let code = c.args.program.now.code in
    let s = query_start c.args.query.now.udf c.args.query.now.args in
    let ds = docs_at store.seen c.args.ts in
    let l = c.loop-pause in
    let paused = subst (λ (p : Pause). Pauses code store.program s ds l.machine l.tx p) c.in-Read.is l.invariant.pauses in
    pause_smaller code store.program s ds l.machine l.tx c.in-Read.ask c.in-Read.plan (length c.read_on.new.tx.reads) c.in_ok-pause-in-Read.ensures.reads paused

pub returns-in_err-pause-in-Read-clause-turns : goal.returns-in_err-pause-in-Read-clause-turns
returns-in_err-pause-in-Read-clause-turns g c =
    let store = g.S.Store.stands c.args.store.now in
    let now = g.S.Store.stands c.loop-pause.store in
    let after = g.S.Store.stands c.read_on.new.store in
    only_then store.turns now.turns after.turns c.loop-pause.invariant.turns (reads_only c.read_on.result now.turns after.turns c.read_on.ensures.turn)

pub returns-in_err-machine-clause-turns : goal.returns-in_err-machine-clause-turns
returns-in_err-machine-clause-turns g c = only_none (g.S.Store.stands c.args.store.now).turns
