use Rattle.std.proofs.Common.{◌≡◌, [], append-nil, refl, sym, Ok, Err, subst}
use Rattle.fn_tree.specs.SyntaxTree.{ModuleTree}
use Rattle.fn_tree.specs.SyntaxViews.{module_view}
use Rattle.cv_stand.specs.Plays.{play}
use Rattle.cv_stand.specs.ScriptViews.{script_view}
use Rattle.cv_stand.specs.Texts.{with_feeds, last_lines}
use Rattle.cv_stand.specs.Writes.{Writes}
use Rattle.cv_stand.proofs.Outcomes.{error_is}
use Rattle.cv_stand.proofs.Texts.{script_split}
use Rattle.cv_stand.proofs.Writing.{writing_none, writing_more, writing_cut, writing_stopped, writing_all}
use Rattle.cv_stand.proofs.script_player.play_script.Goals as goal

pub returns-in_err-stand-clause-writes : goal.returns-in_err-stand-clause-writes
returns-in_err-stand-clause-writes g c =
    let r = c.from_residual in
    writing_stopped r.result (writing_none _ (g.K.Sink.held c.args.out.now) (g.K.Sink.faults c.args.out.now)) (error_is r.result _ r.ensures.0 r.ensures.1)

pub returns-in_err-play_all-clause-writes : goal.returns-in_err-play_all-clause-writes
returns-in_err-play_all-clause-writes g c =
    let m = module_view c.args.program.now.checked.tree in
    let script = script_view c.args.script.now in
    let s0 = c.in_ok-stand.stand.stage in
    let s1 = (play m s0 script.events).last in
    let h0 = g.K.Sink.held c.args.out.now in
    let h1 = g.K.Sink.held c.play_all.new.out in
    let f0 = g.K.Sink.faults c.args.out.now in
    let f1 = g.K.Sink.faults c.play_all.new.out in
    let r = c.from_residual-in_err-play_all in
    let split = script_split m script s0 s1 c.in_ok-stand.ensures.opens refl in
    let told = subst (λ (n : ModuleTree). Writes {T = Unit {0}} (with_feeds (play n s0 script.events).lines) h0 h1 f0 f1 (Err c.in_err-play_all.field-0.0)) c.in_ok-stand.ensures.program
    (rw c.as_slice.ensures.value at c.in_err-play_all.ensures.writes) in
    writing_cut r.result (with_feeds (last_lines script.bad s1.history)) split (writing_none _ h0 f0) told (error_is r.result _ r.ensures.0 r.ensures.1)

pub returns-in_err-write_end-clause-writes : goal.returns-in_err-write_end-clause-writes
returns-in_err-write_end-clause-writes g c =
    let m = module_view c.args.program.now.checked.tree in
    let script = script_view c.args.script.now in
    let s0 = c.in_ok-stand.stand.stage in
    let s1 = c.play_all.new.stand.stage in
    let h0 = g.K.Sink.held c.args.out.now in
    let h1 = g.K.Sink.held c.play_all.new.out in
    let f0 = g.K.Sink.faults c.args.out.now in
    let f1 = g.K.Sink.faults c.play_all.new.out in
    let r = c.from_residual-in_err-write_end in
    let program = c.in_ok-stand.ensures.program in
    let last = subst (λ (n : ModuleTree). s1 ≡ (play n s0 script.events).last) program (rw c.as_slice.ensures.value at c.in_ok-play_all.ensures.last) in
    let told = subst (λ (n : ModuleTree). Writes {T = Unit {0}} (with_feeds (play n s0 script.events).lines) h0 h1 f0 f1 (Ok c.in_ok-play_all.field-0)) program
    (rw c.as_slice.ensures.value at c.in_ok-play_all.ensures.writes) in
    let events = writing_more (with_feeds (last_lines script.bad s1.history)) (script_split m script s0 s1 c.in_ok-stand.ensures.opens last) (writing_none _ h0 f0) told in
    writing_cut r.result [] (sym (append-nil (with_feeds (last_lines script.bad s1.history)))) events c.in_err-write_end.ensures (error_is r.result _ r.ensures.0 r.ensures.1)

pub returns-clause-writes : goal.returns-clause-writes
returns-clause-writes g c =
    let m = module_view c.args.program.now.checked.tree in
    let script = script_view c.args.script.now in
    let s0 = c.in_ok-stand.stand.stage in
    let s1 = c.play_all.new.stand.stage in
    let h0 = g.K.Sink.held c.args.out.now in
    let h1 = g.K.Sink.held c.play_all.new.out in
    let f0 = g.K.Sink.faults c.args.out.now in
    let f1 = g.K.Sink.faults c.play_all.new.out in
    let program = c.in_ok-stand.ensures.program in
    let last = subst (λ (n : ModuleTree). s1 ≡ (play n s0 script.events).last) program (rw c.as_slice.ensures.value at c.in_ok-play_all.ensures.last) in
    let told = subst (λ (n : ModuleTree). Writes {T = Unit {0}} (with_feeds (play n s0 script.events).lines) h0 h1 f0 f1 (Ok c.in_ok-play_all.field-0)) program
    (rw c.as_slice.ensures.value at c.in_ok-play_all.ensures.writes) in
    let events = writing_more (with_feeds (last_lines script.bad s1.history)) (script_split m script s0 s1 c.in_ok-stand.ensures.opens last) (writing_none _ h0 f0) told in
    writing_all _ refl (writing_more [] (sym (append-nil (with_feeds (last_lines script.bad s1.history)))) events c.in_ok-write_end.ensures)
