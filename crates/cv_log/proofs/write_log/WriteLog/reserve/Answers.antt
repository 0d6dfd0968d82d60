use Rattle.std.proofs.Common.{sym, ap, ◌∙◌}
use Rattle.cv_log.specs.Logs.{entries_in, timestamp_of}
use Rattle.cv_log.proofs.write_log.WriteLog.reserve.Goals as goal

pub invariant_of-self-2 : goal.invariant_of-self-2
invariant_of-self-2 c = λ session request.
    c.reserve-2.ensures.entries.2 (session, request) ∙ c.self.invariant session request
    ∙ ap (λ ms. timestamp_of session request (entries_in ms)) (sym c.reserve.ensures.items)
