-- The entry of a session's request.
use Rattle.std.specs.Prelude.{ℕ, ◌+◌, Bool, ◌&&◌, ◌==◌, cond, List, [], ◌∷◌, Option, Some, None}
use Rattle.fn_tree.specs.Course.{Reply}
use Rattle.fn_tree.specs.History.{Entry, History}

abbrev pub is_of : (session request : ℕ) → Entry → Bool
is_of session request e = (e.call.session == session) && (e.call.request == request)

-- of the entries after a timestamp
abbrev pub kept_after : (session request ts : ℕ) → List Entry → Option (ℕ × Reply)
kept_after session request ts [] = None
kept_after session request ts (e ∷ h) = cond (is_of session request e) (Some (ts + 1, e.reply)) (kept_after session request (ts + 1) h)

-- the timestamp and the reply of the first entry of a session's request, if there is one
unfoldable pub kept : (session request : ℕ) → History → Option (ℕ × Reply)
kept session request h = kept_after session request 0 h
