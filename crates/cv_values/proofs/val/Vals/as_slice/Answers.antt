use Rattle.cv_values.specs.Nesting.{slice_falls}
use Rattle.cv_values.proofs.val.Vals.as_slice.Goals as goal

pub returns-clause-falls : goal.returns-clause-falls
returns-clause-falls c = rw (c.as_slice.ensures.value, ← c.self.view_is) (slice_falls c.self.inside.items.items)
