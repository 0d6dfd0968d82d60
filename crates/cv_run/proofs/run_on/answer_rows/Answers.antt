use Rattle.cv_run.proofs.PauseLemmas.{read_runs}
use Rattle.cv_run.proofs.run_on.answer_rows.Goals as goal

pub returns-clause-ok : goal.returns-clause-ok
returns-clause-ok c code m s ds q same distinct stands at got =
    read_runs code m s ds c.args.schema.now c.args.machine.now c.answered.new.self c.args.tx.now c.answer.new.self c.args.ask.now c.args.rows.items q c.in_ok-answer.answer
    same distinct stands at got c.in_ok-answer.ensures.answer c.in_ok-answer.ensures.ok c.answered.ensures
