-- Operators with values, of which there may be fewer.
use Rattle.std.proofs.Common.{◌≡◌, List, [], ◌∷◌, length, map, zip, refl}
use Rattle.cv_values.specs.Trees.{tree}
use Rattle.cv_values.specs.declared.val.Val.{Val}
use Rattle.fn_tree.specs.declared.syntax.CompareOp.{CompareOp}

pub no_values : (ops : List CompareOp) (vs : List Val) → length vs ≡ 0 → zip ops (map tree vs) ≡ []
no_values [] vs h = refl
no_values (op ∷ ops) [] h = refl
no_values (op ∷ ops) (v ∷ vs) h = cc
