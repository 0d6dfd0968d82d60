use Rattle.std.proofs.Common.{◌≡◌, [], map, ap, ◌∙◌, rules}
use Rattle.cv_values.specs.Trees.{tree}
use Rattle.fn_ops.proofs.Kept.{inserted, others, inserted_others}
use Rattle.fn_ops.proofs.objects.copy_without.Goals as goal

pub loop-name-init : goal.loop-name-init
loop-name-init c =
    let n = c.args.left_out.now in
    let all : map (λ e. (e.0, tree e.1)) c.into_iter-name-iterator.result ≡ c.args.fields.now = search rules in
    rw c.new-kept.ensures (ap (λ l. inserted [] (others n l)) all ∙ inserted_others n c.args.fields.now c.as_map-name-items.ensures.ordered)
