-- The entry that a step appends is the kept one of its session's request.
use Rattle.std.proofs.Common.{◌≡◌, ℕ, ◌+◌, [], ◌∷◌, ◌++◌, Bool, true, cond, length, eq-eqb, Option, Some, None, ap, ◌∙◌}
use Rattle.std.specs.Option.{option_or}
use Rattle.fn_tree.specs.Course.{Reply}
use Rattle.fn_tree.specs.History.{Entry, History}
use Rattle.cv_store.specs.Kept.{is_of, kept}
use Rattle.cv_store.proofs.KeptLaws.{kept_with_entry}

pub kept_end : (session request : ℕ) (h : History) (e : Entry) → kept session request h ≡ None → e.call.session ≡ session → e.call.request ≡ request
    → kept session request (h ++ e ∷ []) ≡ Some (length h + 1, e.reply)
kept_end session request h e none s r =
    let own : is_of session request e ≡ true = rw (eq-eqb e.call.session session s, eq-eqb e.call.request request r) in
    kept_with_entry session request h e
    ∙ ap (λ (k : Option (ℕ × Reply)). option_or k (cond (is_of session request e) (Some (length h + 1, e.reply)) None)) none
    ∙ ap (λ (b : Bool). cond b (Some (length h + 1, e.reply)) None) own
