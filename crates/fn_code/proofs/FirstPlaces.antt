-- The first place that passes a test, counted from a place on.
use Rattle.std.proofs.Common.{◌≡◌, Bool, List, sym}
use Rattle.std.proofs.lemmas.Iterator.Adapters.{position_from-zero}
use Rattle.std.specs.List.{position, position_from}

pub first_place : {A : Type 0} (test : A → Bool) (xs : List A) → position_from test 0 xs ≡ position test xs
first_place test xs = sym (position_from-zero test xs)
