use Rattle.std.proofs.Common.{ℕ, List, ◌∙◌, sym}
use Rattle.std.proofs.lemmas.Map.Made.{lookup-map_values}
use Rattle.std.specs.BTreeMap.{is_at}
use Rattle.std.specs.Cmp.Lexicographic.{slice_cmp}
use Rattle.std.specs.Ordering.{nat_cmp}
use Rattle.cv_values.specs.Trees.{tree}
use Rattle.cv_values.proofs.Entries.{option_map-seen}
use Rattle.cv_values.proofs.val.Fields.get.Goals as goal

pub returns : goal.returns
returns c = option_map-seen tree _ ∙ rw (c.get.ensures.value, ← c.self.view_is)
    (sym (lookup-map_values {K = List ℕ} tree (is_at (slice_cmp nat_cmp c.args.name.now)) c.self.inside.inner.entries))
