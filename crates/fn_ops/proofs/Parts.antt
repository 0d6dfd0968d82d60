-- Parts of a list of values.
use Rattle.std.proofs.Common.{◌≡◌, ◌≤◌, ◌<◌, ℕ, pos, List, length, map, take, drop, Option, Some, None, option_map, Bor, ap, sym, ◌∙◌, arith, ◌⊎◌}
use Rattle.std.proofs.lemmas.List.{take-map, drop-map, length-map}
use Rattle.std.specs.List.{PartBy, slice_range}
use Rattle.cv_values.specs.Trees.{tree}
use Rattle.cv_values.specs.Value.{Value}
use Rattle.cv_values.specs.declared.val.Val.{Val}
use Rattle.fn_ops.specs.Operations.{part}

within : (vs : List Value) (i j : ℕ) → i ≤ j → j ≤ length vs → part vs (pos i) (pos j) ≡ Some (slice_range vs i j)
within vs i j h k = grind arith

outside : (vs : List Value) (i j : ℕ) → (j < i) ⊎ (length vs < j) → part vs (pos i) (pos j) ≡ None
outside vs i j h = grind arith

seen : (vs : List Val) (i j : ℕ) → map tree (slice_range vs i j) ≡ slice_range (map tree vs) i j
seen vs i j = sym (ap (take _) (drop-map tree i vs) ∙ take-map tree _ (drop i vs))

-- the part that is lent is the part of the trees
pub part_is : (vs : List Val) (i j : ℕ) (r : Option (Bor (List Val))) → PartBy (λ (p : Bor (List Val)). p.now) vs i j r → option_map (λ p. map tree p.now) r ≡ part (map tree vs) (pos i) (pos j)
part_is vs i j None h = sym (outside (map tree vs) i j (rw (length-map vs tree) h.0))
part_is vs i j (Some p) h = ap (λ l. Some (map tree l)) h.0.2 ∙ ap Some (seen vs i j) ∙ sym (within (map tree vs) i j h.0.0 (rw (length-map vs tree) h.0.1))
