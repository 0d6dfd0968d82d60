use Rattle.std.proofs.Common.{◌≡◌, ◌∙◌, sym, ap}
use Rattle.cv_keys.specs.declared.schema.Schema.{Schema}
use Rattle.cv_store.specs.Reads.{read_from}
use Rattle.cv_tx.specs.Plans.{plan_of}
use Rattle.fn_tree.specs.History.{docs_at}
use Rattle.fn_tree.specs.Schemas.{schema_of}
use Rattle.fn_tree.specs.SyntaxTree.{ModuleTree}
use Rattle.cv_run.proofs.StoreLemmas.{one_made, one_failed}
use Rattle.cv_store.specs.Turns.{after_read}
use Rattle.cv_run.proofs.run_on.read_on.Goals as goal

pub returns-clause-ok : goal.returns-clause-ok
returns-clause-ok g c s q distinct stands planned at =
    let store = g.S.Store.stands c.args.store.now in
    let ds = docs_at store.seen c.args.snapshot in
    let plan = plan_of c.args.tx.now.pending q in
    let same : c.schema.result.now ≡ schema_of store.program.tables = c.schema.ensures.schema ∙ ap (λ (x : ModuleTree). schema_of x.tables) c.requires.program in
    let rows = c.in_ok-rows.ensures.ok plan planned ∙ ap (λ (x : Schema). read_from x ds plan) (sym same) in
    c.run_on.ensures.ok store.program s ds (c.in_ok-answer_rows.ensures.ok c.args.program.now.code store.program s ds q same distinct stands at rows)

pub returns-in_err-rows-clause-turn : goal.returns-in_err-rows-clause-turn
returns-in_err-rows-clause-turn g c =
    let s = g.S.Store.stands c.args.store.now in
    let t = g.S.Store.stands c.read.new.self in
    one_failed c.from_residual.result after_read s.turns t.turns c.from_residual.ensures.0 c.in_err-rows.ensures.turn

pub returns-in_err-answer_rows-clause-turn : goal.returns-in_err-answer_rows-clause-turn
returns-in_err-answer_rows-clause-turn g c =
    let s = g.S.Store.stands c.args.store.now in
    let t = g.S.Store.stands c.read.new.self in
    one_made c.from_residual-in_err-answer_rows.result after_read s.turns t.turns c.in_ok-rows.ensures.turn

pub returns-clause-turn : goal.returns-clause-turn
returns-clause-turn g c =
    let s = g.S.Store.stands c.args.store.now in
    let t = g.S.Store.stands c.read.new.self in
    one_made c.run_on.result after_read s.turns t.turns c.in_ok-rows.ensures.turn
