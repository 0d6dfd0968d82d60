use Rattle.std.proofs.Common.{◌≡◌, ℕ, [], None, refl, sym, ap, ◌∙◌, rules}
use Rattle.std.specs.HashMap.{get}
use Rattle.cv_store.specs.Kept.{kept}
use Rattle.cv_log.specs.Logs.{entries_in, timestamp_of, same_pair}
use Rattle.cv_log.proofs.write_log.WriteLog.new.Goals as goal

none_kept : (session request : ℕ) → timestamp_of session request [] ≡ None
unfolding kept
none_kept session request = refl

pub invariant_of-result : goal.invariant_of-result
invariant_of-result c = λ session request.
    let none : get same_pair c.new-2.result (session, request) ≡ None = search rules in
    none ∙ sym (ap (λ ms. timestamp_of session request (entries_in ms)) c.new.ensures.items ∙ none_kept session request)
