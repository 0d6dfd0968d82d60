use Rattle.std.proofs.Common.{◌≡◌, ◌-◌, length}
use Rattle.cv_run.specs.Pauses.{Pauses}
use Rattle.cv_store.specs.Stores.{Reads, query_run}
use Rattle.cv_store.specs.Turns.{one_more, OnlyAnswers}
use Rattle.fn_tree.specs.History.{query_start, docs_at}
use Rattle.cv_run.proofs.answer.run_query.Given as goal

-- the run of the query pauses on the documents of the beginning
abbrev pub invariant-loop-pause : goal.invariant-loop-pause
invariant-loop-pause g l =
    let store = g.S.Store.stands l.fn.store in
    record {
      reads : Reads store (g.S.Store.stands l.store);
      pauses : Pauses l.program.code store.program (query_start l.query.udf l.query.args) (docs_at store.seen l.ts) l.machine l.tx l.pause;
      runs : l.runs.count ≡ one_more l.fn.runs.count;
      turns : OnlyAnswers store.turns (g.S.Store.stands l.store).turns;
    }

-- how many reads the run still makes
abbrev pub decreases-loop-pause : goal.decreases-loop-pause
decreases-loop-pause g l = length (query_run (g.S.Store.stands l.fn.store) l.query l.ts).reads - length l.tx.reads
