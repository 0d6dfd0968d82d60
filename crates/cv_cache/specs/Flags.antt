-- Flags by number.
use Rattle.std.specs.Prelude.{◌≡◌, ℕ, nat_lt, Bool, true, false, cond, List, length, slice_index_or}
use Rattle.std.specs.Vec.{with_item}
use Rattle.cv_cache.specs.declared.flags.Flags.{Flags}

-- the flag of a number is up
abbrev pub is_up : List Bool → ℕ → Bool
is_up flags n = slice_index_or flags n false

-- no flag is up
abbrev pub AreDown : List Bool → Type 0
AreDown flags = (n : ℕ) → is_up flags n ≡ false

-- with the flag of a number up, where it has one
abbrev pub raised : Flags → ℕ → Flags
raised f n = cond (nat_lt n (length f.up.items)) (record { up = with_item f.up n true; any = true }) f
