-- How a document's fields are changed.
use Rattle.std.specs.Prelude.{ℕ, List}
use Rattle.cv_values.specs.Value.{Value}
use Rattle.fn_tree.specs.Writing.{with_members}
use Rattle.fn_plain.specs.declared.change.Change.{Change}
use Rattle.fn_plain.specs.declared.change.Change.TheVariants.{Patch, Replace}

abbrev pub changed : Change → (new old : List (List ℕ × Value)) → List (List ℕ × Value)
changed Patch new old = with_members new old
changed Replace new old = new
