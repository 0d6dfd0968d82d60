-- The values of parameters, found by their names.
use Rattle.std.proofs.Common.{◌≡◌, ◌∙◌, ◌<◌, ℕ, ◌+◌, List, [], ◌∷◌, ◌++◌, append_assoc, length, map, drop, get_or, refl, sym, ap}
use Rattle.std.proofs.lemmas.List.{map-append, drop_more}
use Rattle.std.specs.Prelude.{Option, Some, None, option_map, option_and_then}
use Rattle.std.specs.BTreeMap.{is_at}
use Rattle.std.specs.Map.{lookup}
use Rattle.cv_values.specs.Order.{text_cmp}
use Rattle.cv_values.specs.Trees.{tree}
use Rattle.cv_values.specs.Value.{Value}
use Rattle.cv_values.specs.declared.val.Val.{Val}
use Rattle.fn_code.specs.CodeMeans.{values_of}

-- values, and then those of the parameters that are left
abbrev pub and_rest : List Val → Option (List Value) → Option (List Value)
and_rest so_far o = option_map (λ (more : List Value). map tree so_far ++ more) o

pub values_first : (so_far : List Val) (o : Option (List Value)) → so_far ≡ [] → and_rest so_far o ≡ o
values_first so_far None e = refl
values_first so_far (Some vs) e = ap (λ (l : List Val). Some (map tree l ++ vs)) e

values_next : (so_far : List Val) (v : Val) (o : Option (List Value)) → and_rest (so_far ++ v ∷ []) o ≡ and_rest so_far (option_map (λ (vs : List Value). tree v ∷ vs) o)
values_next so_far v None = refl
values_next so_far v (Some vs) = ap Some (ap (λ l. l ++ vs) (map-append tree so_far (v ∷ [])) ∙ append_assoc (map tree so_far) (tree v ∷ []) vs)

module _ (args : List (List ℕ × Value)) (params : List (List ℕ)) (i : ℕ) (x : List ℕ) (below : i < length params) (is : x ≡ get_or params i x) where
  abbrev with_value : List (List ℕ) → Option Value → Option (List Value)
  with_value left o = option_and_then (λ v. option_map (λ (vs : List Value). v ∷ vs) (values_of left args)) o

  values_left : (o : Option Value) → lookup (is_at (text_cmp x)) args ≡ o → values_of (drop i params) args ≡ with_value (drop (i + 1) params) o
  values_left o h =
      ap (λ ps. values_of ps args) (drop_more params i x below ∙ ap (λ y. y ∷ drop (i + 1) params) (sym is))
      ∙ ap (with_value (drop (i + 1) params)) h

  -- one parameter more has its value
  pub values_step : (so_far : List Val) (v : Val) → lookup (is_at (text_cmp x)) args ≡ Some (tree v)
      → and_rest (so_far ++ v ∷ []) (values_of (drop (i + 1) params) args) ≡ and_rest so_far (values_of (drop i params) args)
  values_step so_far v h = values_next so_far v (values_of (drop (i + 1) params) args) ∙ ap (and_rest so_far) (sym (values_left (Some (tree v)) h))

  -- one parameter has none
  pub values_none : (so_far : List Val) → lookup (is_at (text_cmp x)) args ≡ None → and_rest so_far (values_of (drop i params) args) ≡ None
  values_none so_far h = ap (and_rest so_far) (values_left None h)
