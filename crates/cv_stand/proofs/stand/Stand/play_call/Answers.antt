use Rattle.std.proofs.Common.{◌≡◌, List, ℕ, Some, sym, ap, ◌∙◌, subst, string_bytes}
use Rattle.fn_tree.specs.EntryViews.{reply_view}
use Rattle.fn_tree.specs.History.{History}
use Rattle.cv_store.specs.Kept.{kept}
use Rattle.cv_stand.specs.Plays.{after_call}
use Rattle.cv_stand.specs.Stands.{Stood, module_of}
use Rattle.cv_stand.specs.Texts.{with_feeds}
use Rattle.cv_stand.specs.Writes.{Writes}
use Rattle.cv_stand.proofs.Events.{tells_reply}
use Rattle.cv_stand.proofs.Outcomes.{error_is}
use Rattle.cv_stand.proofs.Writing.{writing_none, writing_stopped}
use Rattle.cv_stand.proofs.stand.Stand.play_call.Goals as goal

pub returns-in_err-ts-clause-writes : goal.returns-in_err-ts-clause-writes
returns-in_err-ts-clause-writes g c =
    let r = c.from_residual in
    writing_stopped r.result (writing_none _ (g.K.Sink.held c.args.out.now) (g.K.Sink.faults c.args.out.now)) (error_is r.result _ r.ensures.0 r.ensures.1)

pub returns-in_err-line-clause-writes : goal.returns-in_err-line-clause-writes
returns-in_err-line-clause-writes g c =
    let r = c.from_residual-in_err-line in
    writing_stopped r.result (writing_none _ (g.K.Sink.held c.args.out.now) (g.K.Sink.faults c.args.out.now)) (error_is r.result _ r.ensures.0 r.ensures.1)

pub returns-clause-writes : goal.returns-clause-writes
returns-clause-writes g c =
    let call = c.args.call.now in
    let played = c.in_ok-ts.ensures.ok in
    let before : c.self.inside.store.core.log ≡ c.args.self.now.stage.history = ap (λ (x : Stood). x.stage.history) c.self.view_is in
    let after : History = after_call (module_of c.args.self.now) c.args.self.now.stage.history call in
    let log : c.play_out.new.store.core.log ≡ after = played.history ∙ (λ i. after_call (c.requires i) (before i) call) in
    let found : kept call.session call.request after ≡ Some (c.in_ok-ts.ts, reply_view c.in_ok-ts.reply) = ap (kept call.session call.request) (sym log) ∙ played.told in
    subst (λ (ls : List (List ℕ)). Writes (with_feeds ls) (g.K.Sink.held c.args.out.now) (g.K.Sink.held c.write_line.new.out) (g.K.Sink.faults c.args.out.now) (g.K.Sink.faults c.write_line.new.out) c.write_line.result)
    (tells_reply after call c.in_ok-ts.ts (reply_view c.in_ok-ts.reply) (string_bytes c.in_ok-line.line) found c.in_ok-line.ensures) c.write_line.ensures
