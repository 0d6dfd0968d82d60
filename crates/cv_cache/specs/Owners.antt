-- What holds of the numbers that own ranges.
use Rattle.std.specs.Prelude.{◌≡◌, ℕ, ◌≤◌, false, length}
use Rattle.slab.specs.Slab.{HasRoomFor}
use Rattle.cv_cache.specs.Flags.{AreDown}
use Rattle.cv_cache.specs.declared.owners.Owners.{Owners}

-- each number has a flag, and none is up
pub record IsFlagged (o : Owners) : Type 0 where
  pub enough : length o.queries.slots ≤ length o.flags.up.items
  pub down : AreDown o.flags.up.items
  pub none : o.flags.any ≡ false

-- one number more fits, and has a flag
pub record HasRoom (o : Owners) : Type 0 where
  pub room : HasRoomFor o.queries 1
  pub flags : o.queries.capacity ≤ length o.flags.up.items
