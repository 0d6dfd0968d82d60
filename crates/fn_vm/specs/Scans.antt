-- Scans, whose bounds are on the stack.
use Rattle.std.specs.Prelude.{◌≡◌, ℕ, zip, List, Option, Some, None}
use Rattle.cv_keys.specs.Intervals.{in_bytes}
use Rattle.cv_keys.specs.KeyOrder.{EndInRange}
use Rattle.cv_keys.specs.Places.{PlaceInterval}
use Rattle.cv_keys.specs.declared.interval.Interval.{Interval}
use Rattle.cv_values.specs.Value.{Value}
use Rattle.fn_tree.specs.Reading.{bounded}
use Rattle.fn_tree.specs.declared.syntax.CompareOp.{CompareOp}

-- the bytes of an interval of places, whose integers have 64 bits
abbrev pub AreBytes : PlaceInterval → Interval → Type 0
AreBytes p i = (i ≡ in_bytes p) × EndInRange p.lo × EndInRange p.hi

-- whether there are the values of the bounds, and the bytes of the interval that they leave
abbrev pub Leave : (table index : ℕ) → List CompareOp → Option (List Value × List Value) → Option Interval → Type 0
Leave table index ops None None = Unit {0}
Leave table index ops (Some vs) (Some i) = AreBytes (bounded table index (zip ops vs.0)) i
Leave table index ops vs i = ⊥
