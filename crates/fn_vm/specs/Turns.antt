-- What the end of a turn does to the loops under way.
use Rattle.std.specs.Prelude.{◌≡◌, List, [], ◌∷◌}
use Rattle.cv_values.specs.Trees.{tree}
use Rattle.cv_values.specs.Value.{Value}
use Rattle.fn_vm.specs.declared.frame.Turn.{Turn}
use Rattle.fn_vm.specs.declared.frame.Turn.TheVariants.{Nowhere, Over, Item}

abbrev pub Turns : Turn → (before after : List (List Value)) → Type 0
Turns Nowhere before after = before ≡ []
Turns Over before after = before ≡ [] ∷ after
Turns (Item v) before after = (vs : List Value) × (rest : List (List Value)) × (before ≡ (tree v ∷ vs) ∷ rest) × (after ≡ vs ∷ rest)
