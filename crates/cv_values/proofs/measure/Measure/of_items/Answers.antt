use Rattle.std.proofs.Common.{◌≡◌, ◌+◌, ◌-◌, ◌^◌, ◌≤◌, ◌∷◌, sym, ap, ◌∙◌, map, drop, arith}
use Rattle.std.proofs.lemmas.List.{drop_more}
use Rattle.cv_values.specs.Measures.{add, of_value, of_values}
use Rattle.cv_values.specs.Trees.{tree}
use Rattle.cv_values.specs.declared.val.Val.{Val}
use Rattle.cv_values.proofs.Measured.{values_more}
use Rattle.cv_values.proofs.measure.Measure.of_items.Goals as goal

pub loop-item-preserved : goal.loop-item-preserved
loop-item-preserved c =
    let i = c.loop-item.item-index in
    let xs = c.args.items.now in
    let x : Val = c.item-item.result in
    let next : drop i xs ≡ x ∷ drop (i + 1) xs = drop_more xs i x c.loop-item-test.true ∙ ap (λ y. y ∷ drop (i + 1) xs) (sym c.item-item.is) in
    let made : c.add-total.result ≡ add c.loop-item.total (of_value (tree x)) = c.add-total.ensures ∙ ap (λ m. add c.loop-item.total m) c.of_val.ensures in
    let fits : c.add-total.result.size ≤ 2 ^ 64 - 1 = omega (arith, ap (λ m. m.size) made) in (
      fits,
      rw made (values_more c.loop-item.total (tree x) (map tree (drop (i + 1) xs))) ∙ ap (λ vs. add c.loop-item.total (of_values (map tree vs))) (sym next) ∙ c.loop-item.invariant.1,
    )
