-- A text of which nothing was written.
use Rattle.std.proofs.Common.{◌≡◌, ℕ, List, [], ◌++◌, Option, None, Some, sym, append-nil}
use Rattle.std.specs.Io.KnownBytes.{Appends}

pub Appends-none : (h : Option (List ℕ)) → Appends h h []
Appends-none None = tt
Appends-none (Some a) = sym (append-nil a)
