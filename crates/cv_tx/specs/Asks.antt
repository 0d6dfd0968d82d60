-- The reads of a run, in bytes and in places.
use Rattle.std.specs.Prelude.{◌≡◌, ℕ, Bool, List, Option, IsSome}
use Rattle.cv_values.specs.declared.doc.Doc.{Doc}
use Rattle.cv_keys.specs.Documents.{index_at}
use Rattle.cv_keys.specs.Intervals.{in_bytes}
use Rattle.cv_keys.specs.KeyOrder.{EndInRange}
use Rattle.cv_keys.specs.Places.{PlaceInterval}
use Rattle.cv_keys.specs.declared.interval.Interval.{Interval}
use Rattle.cv_keys.specs.declared.schema.Index.{Index}
use Rattle.cv_keys.specs.declared.schema.Schema.{Schema}
use Rattle.fn_tree.specs.Course as course
use Rattle.fn_tree.specs.Scan.{Answer, cut_lo, cut_hi, consumed_after, consumed_interval}
use Rattle.fn_tree.specs.Schemas.{schema_of}
use Rattle.fn_tree.specs.SyntaxTree.{TableTree}
use Rattle.fn_tree.specs.declared.stop.Left.{Left}
use Rattle.fn_tree.specs.declared.stop.Answer.{Answer as Held}
use Rattle.fn_tree.specs.declared.stop.Ask.{Ask}
use Rattle.fn_tree.specs.declared.stop.Ask.TheVariants.{Get, Scan}

-- the bytes of an interval of places, whose ends are some that the key order law speaks of
pub record IsBytesOf (i : PlaceInterval) (bytes : Interval) : Type 0 where
  pub bytes_are : in_bytes i ≡ bytes
  pub lo : EndInRange i.lo
  pub hi : EndInRange i.hi

-- a read in bytes stands for one in places
abbrev pub Stands : Ask → course.Ask → Type 0
Stands (Get id left) q = q ≡ course.get_doc id left
Stands (Scan interval desc limit left) q = (i : PlaceInterval) × (q ≡ course.scan_rows i desc limit left) × IsBytesOf i interval

-- the index of a scan is there
abbrev pub IsIndexed : Schema → Ask → Type 0
IsIndexed schema (Get id left) = Unit {0}
IsIndexed schema (Scan interval desc limit left) = IsSome (index_at schema interval.table interval.index)

-- the schema is that of a program's tables
abbrev pub IsProgramSchema : Schema → Type 0
IsProgramSchema schema = (tables : List TableTree) × (schema ≡ schema_of tables)

-- the rows of an answer, and what they tell of in bytes
pub record Answers (held : Held) (a : Answer) : Type 0 where
  pub docs : held.docs.items ≡ a.docs
  pub consumed : IsBytesOf a.consumed held.consumed

-- the part of an interval that these rows tell of: where the scan was cut, up to and including the last of them
abbrev pub part_of : Option Index → PlaceInterval → (desc cut : Bool) → List Doc → PlaceInterval
part_of index p desc cut ds = record p { lo = cut_lo index p desc cut ds; hi = cut_hi index p desc cut ds }

-- what a scan consumes of rows that stand in its direction
abbrev pub scan_of : Option Index → List Doc → PlaceInterval → (desc : Bool) → Option ℕ → Left → Answer
scan_of index rows i desc limit left =
    let ds = consumed_after limit left 0 0 rows in
    record { docs = ds; consumed = consumed_interval index i desc limit left ds }
