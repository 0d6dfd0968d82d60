use Rattle.std.proofs.lemmas.Map.Made.{keys_of-map_values}
use Rattle.cv_values.specs.Trees.{tree}
use Rattle.cv_values.specs.Nesting.{map_falls}
use Rattle.cv_values.proofs.val.Fields.as_map.Goals as goal

pub returns-clause-falls : goal.returns-clause-falls
returns-clause-falls c = rw (← c.self.view_is) (map_falls c.self.inside.inner.entries)

pub returns-clause-ordered : goal.returns-clause-ordered
returns-clause-ordered c = rw (← c.self.view_is, keys_of-map_values tree c.self.inside.inner.entries) c.len-ordered.ensures.ordered
