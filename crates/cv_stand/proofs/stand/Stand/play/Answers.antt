use Rattle.std.proofs.Common.{◌≡◌, ℕ, List, [], Ok, sym, ap, ◌∙◌, subst}
use Rattle.fn_tree.specs.History.{History}
use Rattle.cv_store.specs.Stores.{Standing}
use Rattle.cv_stand.specs.EntryLines.{entry_lines}
use Rattle.cv_stand.specs.Events.{Event}
use Rattle.cv_stand.specs.Plays.{output}
use Rattle.cv_stand.specs.ScriptViews.{event_view}
use Rattle.cv_stand.specs.Stands.{Stood, module_of}
use Rattle.cv_stand.specs.Texts.{with_feeds}
use Rattle.cv_stand.specs.Writes.{Writes}
use Rattle.cv_stand.proofs.Events.{call_tells}
use Rattle.cv_stand.proofs.Outcomes.{error_is}
use Rattle.cv_stand.proofs.Writing.{writing_none, writing_stopped, writes_nothing}
use Rattle.cv_stand.proofs.stand.Stand.play.Goals as goal

pub returns-in-Clock-clause-writes : goal.returns-in-Clock-clause-writes
returns-in-Clock-clause-writes g c =
    let h = g.K.Sink.held c.args.out.now in
    let f = g.K.Sink.faults c.args.out.now in
    subst (λ (e : Event). Writes {T = Unit {0}} (with_feeds (output (module_of c.args.self.now) c.args.self.now.stage e)) h h f f (Ok tt)) (sym (ap event_view c.in-Clock.is)) (writes_nothing tt h f)

pub returns-in_err-call-in-Call-clause-writes : goal.returns-in_err-call-in-Call-clause-writes
returns-in_err-call-in-Call-clause-writes g c =
    let r = c.from_residual in
    writing_stopped r.result (writing_none _ (g.K.Sink.held c.args.out.now) (g.K.Sink.faults c.args.out.now)) (error_is r.result _ r.ensures.0 r.ensures.1)

pub returns-in_ok-call-in-Call-clause-writes : goal.returns-in_ok-call-in-Call-clause-writes
returns-in_ok-call-in-Call-clause-writes g c =
    let m = module_of c.args.self.now in
    subst (λ (t : List ℕ). Writes t (g.K.Sink.held c.args.out.now) (g.K.Sink.held c.play_call.new.out) (g.K.Sink.faults c.args.out.now) (g.K.Sink.faults c.play_call.new.out) c.play_call.result)
    (call_tells m c.args.self.now.stage (event_view c.args.event.now) _ c.in_ok-call-in-Call.call (ap event_view c.in-Call.is) c.in_ok-call-in-Call.ensures) c.play_call.ensures.writes

pub returns-in-Log-clause-writes : goal.returns-in-Log-clause-writes
returns-in-Log-clause-writes g c =
    let m = module_of c.args.self.now in
    let s = c.args.self.now.stage in
    let h0 = g.K.Sink.held c.args.out.now in
    let h1 = g.K.Sink.held c.write_entries.new.out in
    let f0 = g.K.Sink.faults c.args.out.now in
    let f1 = g.K.Sink.faults c.write_entries.new.out in
    let same : c.core.result.now.log ≡ s.history = sym (ap (λ (x : Standing). x.seen) c.core.ensures) ∙ ap (λ (x : Stood). x.stage.history) c.self-in-Log.view_is in
    subst (λ (e : Event). Writes (with_feeds (output m s e)) h0 h1 f0 f1 c.write_entries.result) (sym (ap event_view c.in-Log.is))
    (subst (λ (h : History). Writes (with_feeds (entry_lines 0 h)) h0 h1 f0 f1 c.write_entries.result) same c.write_entries.ensures)
