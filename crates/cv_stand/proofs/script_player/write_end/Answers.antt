use Rattle.std.proofs.Common.{ℕ, List, Ok, sym, ap, ◌∙◌, subst, string_bytes}
use Rattle.cv_stand.specs.EntryLines.{length_line}
use Rattle.cv_stand.specs.Writes.{Writes}
use Rattle.cv_stand.specs.declared.stand.Counts.{Counts}
use Rattle.cv_stand.proofs.Outcomes.{error_is}
use Rattle.cv_stand.proofs.Texts.{end_is, no_end}
use Rattle.cv_stand.proofs.Writing.{writing_none, writing_stopped, writes_nothing}
use Rattle.cv_stand.proofs.script_player.write_end.Goals as goal

pub returns-in-Some : goal.returns-in-Some
returns-in-Some g c =
    let h = g.K.Sink.held c.args.out.now in
    let f = g.K.Sink.faults c.args.out.now in
    subst (λ (t : List ℕ). Writes {T = Unit {0}} t h h f f (Ok tt)) (no_end c.args.bad _ c.args.stand.now.stage.history c.in-Some.is) (writes_nothing tt h f)

pub returns-in_err-line-in-None : goal.returns-in_err-line-in-None
returns-in_err-line-in-None g c =
    let r = c.from_residual in
    writing_stopped r.result (writing_none _ (g.K.Sink.held c.args.out.now) (g.K.Sink.faults c.args.out.now)) (error_is r.result _ r.ensures.0 r.ensures.1)

pub returns-in_ok-line-in-None : goal.returns-in_ok-line-in-None
returns-in_ok-line-in-None g c =
    subst (λ (t : List ℕ). Writes t (g.K.Sink.held c.args.out.now) (g.K.Sink.held c.write_line.new.out) (g.K.Sink.faults c.args.out.now) (g.K.Sink.faults c.write_line.new.out) c.write_line.result)
    (end_is c.args.bad c.args.stand.now.stage.history (string_bytes c.in_ok-line-in-None.line) c.in-None.is (c.in_ok-line-in-None.ensures ∙ ap (λ (k : Counts). length_line k.entries) c.counts.ensures))
    c.write_line.ensures
