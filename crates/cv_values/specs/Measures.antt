-- What is kept beside the contents of an array or an object: how large and how deep they are.
use Rattle.std.specs.Prelude.{ℕ, ◌+◌, ◌-◌, ◌^◌, min, max, true, false, ◌||◌, List, length}
use Rattle.cv_values.specs.Sizes.{size_of, values_size, members_size, has_many, values_many, members_many, is_bad_name, has_bad_name, values_bad_name, members_bad_name}
use Rattle.cv_values.specs.Value.{Value, depth_of, values_of, members_of, values_depth, members_depth}
use Rattle.cv_values.specs.declared.measure.Measure.{Measure}

-- of nothing
abbrev pub nothing : Measure
nothing = record { size = 0; depth = 0; many = false; bad = false; bad_stored = false }

-- of two parts together
abbrev pub add : Measure → Measure → Measure
add a b = record {
  size = min (a.size + b.size) (2 ^ 64 - 1);
  depth = max a.depth b.depth;
  many = a.many || b.many;
  bad = a.bad || b.bad;
  bad_stored = a.bad_stored || b.bad_stored;
}

-- of one value
abbrev pub of_value : Value → Measure
of_value v = record {
  size = min (size_of v) (2 ^ 64 - 1);
  depth = min (depth_of v) (2 ^ 32 - 1);
  many = has_many v;
  bad = has_bad_name false v;
  bad_stored = has_bad_name true v;
}

-- of a value under a name
abbrev pub of_member : List ℕ × Value → Measure
of_member m = record {
  size = min (length m.0 + 1 + size_of m.1) (2 ^ 64 - 1);
  depth = min (depth_of m.1) (2 ^ 32 - 1);
  many = has_many m.1;
  bad = is_bad_name false m.0 || has_bad_name false m.1;
  bad_stored = is_bad_name true m.0 || has_bad_name true m.1;
}

-- of the items of an array
abbrev pub of_values : List Value → Measure
of_values vs = record {
  size = min (values_size (values_of vs)) (2 ^ 64 - 1);
  depth = min (values_depth (values_of vs)) (2 ^ 32 - 1);
  many = values_many (values_of vs);
  bad = values_bad_name false (values_of vs);
  bad_stored = values_bad_name true (values_of vs);
}

-- of the names and values of an object
abbrev pub of_members : List (List ℕ × Value) → Measure
of_members ms = record {
  size = min (members_size (members_of ms)) (2 ^ 64 - 1);
  depth = min (members_depth (members_of ms)) (2 ^ 32 - 1);
  many = members_many (members_of ms);
  bad = members_bad_name false (members_of ms);
  bad_stored = members_bad_name true (members_of ms);
}
