use Rattle.std.proofs.Common.{ℕ, Option, Err, inl, inr, sym, ap, ◌∙◌, subst}
use Rattle.fn_tree.specs.SyntaxViews.{module_view}
use Rattle.convexd.specs.Answering.{Answers, IsPlay}
use Rattle.cv_stand.specs.Lines.{lines_of}
use Rattle.cv_stand.specs.ScriptViews.{script_view}
use Rattle.cv_stand.specs.Texts.{script_text}
use Rattle.convexd.specs.declared.exit.Exit.{Exit}
use Rattle.convexd.proofs.Replayed.{is_play, is_refused}
use Rattle.convexd.proofs.replay.replay_input.Goals as goal

pub returns-in-Err-load-clause-answer : goal.returns-in-Err-load-clause-answer
returns-in-Err-load-clause-answer g c =
    let f = c.in-Ok.ensures.found in
    subst (λ (e : Exit). Answers c.args.input.now (g.O.Sink.held c.args.out.now) (g.O.Sink.held c.args.out.now) e) (sym c.not_loaded.ensures.same)
    (is_refused c.args.input.now c.in-Ok.parts.module.now f.0 (lines_of c.in-Ok.parts.script.now) f.1 f.2 (g.O.Sink.held c.args.out.now) c.in-Err-load.fault c.in-Err-load.ensures.bad c.requires)

pub returns-in-Ok-None-clause-answer : goal.returns-in-Ok-None-clause-answer
returns-in-Ok-None-clause-answer g c =
    let f = c.in-Ok.ensures.found in
    let tree = module_view c.in-Ok-load.program.checked.tree in
    let script = script_view c.in-Ok-read_script.script in
    let text = script_text tree script in
    let play : IsPlay c.args.input.now script.bad text = is_play c.args.input.now c.in-Ok.parts.module.now f.0 (lines_of c.in-Ok.parts.script.now) f.1 f.2 c.in-Ok.parts.line tree script c.play_script.ensures.log f.3 c.in-Ok-load.ensures.good c.in-Ok-read_script.ensures c.requires in
    (text, subst (λ (b : Option ℕ). IsPlay c.args.input.now b text) (sym c.in-Ok-None.ensures.bad ∙ c.in-Ok-None.field-0-is) play, c.in-Ok-None.ensures.writes.done)

pub returns-in-Ok-Some-clause-answer : goal.returns-in-Ok-Some-clause-answer
returns-in-Ok-Some-clause-answer g c =
    let f = c.in-Ok.ensures.found in
    let tree = module_view c.in-Ok-load.program.checked.tree in
    let script = script_view c.in-Ok-read_script.script in
    let text = script_text tree script in
    let play : IsPlay c.args.input.now script.bad text = is_play c.args.input.now c.in-Ok.parts.module.now f.0 (lines_of c.in-Ok.parts.script.now) f.1 f.2 c.in-Ok.parts.line tree script c.play_script.ensures.log f.3 c.in-Ok-load.ensures.good c.in-Ok-read_script.ensures c.requires in
    inr (text, subst (λ (b : Option ℕ). IsPlay c.args.input.now b text) (sym c.in-Ok-Some.ensures.bad ∙ c.in-Ok-Some.field-0-is) play, c.in-Ok-Some.ensures.writes.done)

pub returns-in-Err-Write-clause-answer : goal.returns-in-Err-Write-clause-answer
returns-in-Err-Write-clause-answer g c =
    let f = c.in-Ok.ensures.found in
    let tree = module_view c.in-Ok-load.program.checked.tree in
    let script = script_view c.in-Ok-read_script.script in
    let text = script_text tree script in
    let play : IsPlay c.args.input.now script.bad text = is_play c.args.input.now c.in-Ok.parts.module.now f.0 (lines_of c.in-Ok.parts.script.now) f.1 f.2 c.in-Ok.parts.line tree script c.play_script.ensures.log f.3 c.in-Ok-load.ensures.good c.in-Ok-read_script.ensures c.requires in
    (script.bad, text, play, c.in-Err-Write.ensures.writes.part)

pub returns-in-Err-Memory-clause-answer : goal.returns-in-Err-Memory-clause-answer
returns-in-Err-Memory-clause-answer g c =
    let f = c.in-Ok.ensures.found in
    let tree = module_view c.in-Ok-load.program.checked.tree in
    let script = script_view c.in-Ok-read_script.script in
    let text = script_text tree script in
    let play : IsPlay c.args.input.now script.bad text = is_play c.args.input.now c.in-Ok.parts.module.now f.0 (lines_of c.in-Ok.parts.script.now) f.1 f.2 c.in-Ok.parts.line tree script c.play_script.ensures.log f.3 c.in-Ok-load.ensures.good c.in-Ok-read_script.ensures c.requires in
    inr (script.bad, text, play, c.in-Err-Memory.ensures.writes.part)
