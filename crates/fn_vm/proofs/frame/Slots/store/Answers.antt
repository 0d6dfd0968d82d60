use Rattle.std.proofs.Common.{ap, sym, ◌∙◌, map, slice_set, subst, arith, length, ◌≤◌}
use Rattle.std.proofs.lemmas.List.{map-set, set_past, length-map}
use Rattle.cv_values.specs.Trees.{tree}
use Rattle.fn_vm.proofs.Lists.{stored_is}
use Rattle.fn_vm.proofs.frame.Slots.store.Goals as goal

pub returns-then-place-len : goal.returns-then-place-len
returns-then-place-len c =
    let xs = c.self.inside.items.items in
    ap (λ v. map tree (slice_set xs c.args.n v)) c.replace.ensures.after
    ∙ map-set tree xs c.args.n c.args.v
    ∙ ap (λ vs. slice_set vs c.args.n (tree c.args.v)) c.self.view_is
    ∙ sym (stored_is c.args.n (tree c.args.v) c.args.self.now)

pub returns-else-place-len : goal.returns-else-place-len
returns-else-place-len c =
    let xs = c.self.inside.items in
    let len = length-map xs.items tree in
    let past : length (map tree xs.items) ≤ c.args.n = omega (arith, len, c.if-place-len.false, c.len.ensures, xs.ok.0) in
    sym (stored_is c.args.n (tree c.args.v) c.args.self.now ∙ set_past c.args.self.now c.args.n (tree c.args.v) (subst (λ vs. length vs ≤ c.args.n) c.self.view_is past))
