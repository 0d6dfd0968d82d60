-- The interval of a range.
use Rattle.std.specs.Prelude.{ℕ, ◌+◌, Bool, true, false, nat_lt, if◌then◌else◌, List, [], ◌∷◌, ◌++◌, map, length, Option, Some, None, Result, Ok, Err}
use Rattle.std.specs.Borrow.{Bor}
use Rattle.cv_values.specs.Trees.{tree}
use Rattle.cv_values.specs.declared.val.Val.{Val}
use Rattle.cv_keys.specs.Documents.{index_at}
use Rattle.cv_keys.specs.Intervals.{in_bytes}
use Rattle.cv_keys.specs.Places.{Place, End, below, above, PlaceInterval}
use Rattle.cv_keys.specs.declared.interval.Interval.{Interval}
use Rattle.cv_keys.specs.declared.range.Bound.{Bound}
use Rattle.cv_keys.specs.declared.range.Bound.TheVariants.{None as Unbounded, Including, Excluding}
use Rattle.cv_keys.specs.declared.range.Range.{Range}
use Rattle.cv_keys.specs.declared.range.RangeFault.{RangeFault}
use Rattle.cv_keys.specs.declared.range.RangeFault.TheVariants.{NoIndex, NoField}
use Rattle.cv_keys.specs.declared.schema.Index.{Index}
use Rattle.cv_keys.specs.declared.schema.Schema.{Schema}

abbrev pub items_of : List Val → Place
items_of vs = map Some (map tree vs)

-- the items of the values, and of the bound if it is there
abbrev pub given : List Val → Option (Bor Val) → Place
given vs None = items_of vs
given vs (Some v) = items_of vs ++ Some (tree v.now) ∷ []

-- the end right behind the places that begin with p, or right before them
abbrev pub end_at : Place → Bool → End
end_at p true = above p
end_at p false = below p

-- the end under the places that begin with p and go on with at least, or more than, the bound
abbrev pub lower_end : Place → Bound → End
lower_end p Unbounded = below p
lower_end p (Including v) = below (p ++ Some (tree v) ∷ [])
lower_end p (Excluding v) = above (p ++ Some (tree v) ∷ [])

-- the end over the places that begin with p and go on with at most, or less than, the bound
abbrev pub upper_end : Place → Bound → End
upper_end p Unbounded = above p
upper_end p (Including v) = above (p ++ Some (tree v) ∷ [])
upper_end p (Excluding v) = below (p ++ Some (tree v) ∷ [])

-- the places that begin with the equalities and go on between the bounds
abbrev pub range_interval : Range → PlaceInterval
range_interval r = record { table = r.table; index = r.index; lo = lower_end (map Some r.equal) r.lower; hi = upper_end (map Some r.equal) r.upper }

-- one field more is needed where there is a bound
abbrev pub bound_fields : Bound → Bound → ℕ
bound_fields Unbounded Unbounded = 0
bound_fields b c = 1

abbrev pub interval_in : Option Index → Range → Result Interval RangeFault
interval_in None r = Err NoIndex
interval_in (Some index) r =
    if nat_lt (length index.fields) (length r.equal + bound_fields r.lower r.upper) then Err NoField
    else Ok (in_bytes (range_interval r))

abbrev pub interval_of : Schema → Range → Result Interval RangeFault
interval_of schema r = interval_in (index_at schema r.table r.index) r
