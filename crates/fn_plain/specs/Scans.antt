-- Scans over intervals of key bytes.
use Rattle.std.specs.Prelude.{◌≡◌, ◌-◌, ℕ, Bool, if◌then◌else◌, List, Option, Some, None}
use Rattle.cv_values.specs.Value.{Value}
use Rattle.cv_values.specs.declared.doc.Doc.{Doc}
use Rattle.cv_keys.specs.Intervals.{in_bytes}
use Rattle.cv_keys.specs.KeyOrder.{EndInRange}
use Rattle.cv_keys.specs.Places.{PlaceInterval}
use Rattle.cv_keys.specs.declared.schema.Index.{Index}
use Rattle.cv_keys.specs.declared.interval.Interval.{Interval}
use Rattle.fn_tree.specs.Scan.{Quota, of_cost, of_rows, of_size, of_read, cut_lo, cut_hi, Answer, answer}
use Rattle.fn_tree.specs.Course.{Ask}
use Rattle.fn_tree.specs.Reading.{bounded, has_fields}
use Rattle.fn_tree.specs.Run.{with_puts}
use Rattle.fn_tree.specs.declared.syntax.CompareOp.{CompareOp}
use Rattle.fn_tree.specs.declared.stop.Left.{Left}
use Rattle.fn_plain.specs.declared.context.Context.{Context}
use Rattle.fn_plain.specs.declared.context.Counts.{Counts}
use Rattle.fn_plain.specs.declared.context.Limits.{Limits}
use Rattle.fn_plain.specs.declared.context.Progress.{Progress}
use Rattle.fn_plain.specs.declared.scan.Quota.{Quota as Held}
use Rattle.fn_plain.specs.declared.scan.Quota.TheVariants as held
use Rattle.fn_plain.specs.declared.scan.Scanned.{Scanned}

-- the bytes stand for an interval of places, whose integers have 64 bits
pub record Stands (p : PlaceInterval) (i : Interval) : Type 0 where
  pub bytes : in_bytes p ≡ i
  pub lo : EndInRange p.lo
  pub hi : EndInRange p.hi

abbrev pub quota_view : Held → Quota
quota_view held.Cost = of_cost
quota_view held.Rows = of_rows
quota_view held.Size = of_size
quota_view held.Read = of_read

-- the part of an interval that these rows tell of: where the scan was cut, up to and including the last of them
abbrev pub part_of : Option Index → PlaceInterval → (desc cut : Bool) → List Doc → PlaceInterval
part_of index p desc cut ds = record p { lo = cut_lo index p desc cut ds; hi = cut_hi index p desc cut ds }

-- a scan consumed what an answer says
pub record Scans (s : Scanned) (a : Answer) : Type 0 where
  pub docs : s.docs.items ≡ a.docs
  pub consumed : s.consumed ≡ in_bytes a.consumed

-- whether there is an interval, and the bytes of it
abbrev pub StandsFor : Option PlaceInterval → Option Interval → Type 0
StandsFor None None = Unit {0}
StandsFor (Some p) (Some i) = Stands p i
StandsFor p i = ⊥

-- what is left of the quotas of rows
abbrev pub left_by : Limits → Counts → Left
left_by limits counts = record { cost = limits.cost - counts.cost; rows = limits.rows - counts.rows; size = limits.size - counts.size }

abbrev pub left_in : Context → Counts → Left
left_in c counts = left_by c.limits counts

-- the answer to an ask where a run stands: its rows, and the bytes of what is consumed
pub record Answered (c : Context) (p : Progress) (question : Ask) (docs : List Doc) (consumed : Interval) : Type 0 where
  pub docs_are : (answer c.schema.now (with_puts p.puts.items c.base.now) question).docs ≡ docs
  pub consumed_is : in_bytes ((answer c.schema.now (with_puts p.puts.items c.base.now) question).consumed) ≡ consumed

-- the interval that the bounds leave of an index, where it has as many fields
abbrev pub bounded_in : Index → (table index : ℕ) → List (CompareOp × Value) → Option PlaceInterval
bounded_in order table index bounds = if has_fields order bounds then Some (bounded table index bounds) else None
