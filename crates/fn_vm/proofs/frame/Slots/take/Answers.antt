use Rattle.std.proofs.Common.{ap, sym, ◌∙◌, map, slice_set, subst, arith, length, ◌≤◌}
use Rattle.std.proofs.lemmas.List.{map-set, set_past, length-map}
use Rattle.std.proofs.lemmas.Option.{slice_get_past}
use Rattle.cv_values.specs.Trees.{tree}
use Rattle.cv_values.specs.Value.{null}
use Rattle.fn_vm.proofs.Lists.{stored_is}
use Rattle.fn_vm.proofs.frame.Slots.take.Goals as goal

pub returns-then-place-len-clause-behind : goal.returns-then-place-len-clause-behind
returns-then-place-len-clause-behind c =
    let xs = c.self.inside.items.items in
    ap (λ v. map tree (slice_set xs c.args.n v)) c.replace.ensures.after
    ∙ map-set tree xs c.args.n _
    ∙ ap (λ vs. slice_set vs c.args.n null) c.self.view_is
    ∙ sym (stored_is c.args.n null c.args.self.now)

pub returns-clause-value : goal.returns-clause-value
returns-clause-value c =
    let xs = c.self.inside.items in
    let len = length-map xs.items tree in
    let past : length (map tree xs.items) ≤ c.args.n = omega (arith, len, c.if-place-len.false, c.len.ensures, xs.ok.0) in
    sym (slice_get_past c.args.self.now c.args.n (subst (λ vs. length vs ≤ c.args.n) c.self.view_is past))

pub returns-clause-behind : goal.returns-clause-behind
returns-clause-behind c =
    let xs = c.self.inside.items in
    let len = length-map xs.items tree in
    let past : length (map tree xs.items) ≤ c.args.n = omega (arith, len, c.if-place-len.false, c.len.ensures, xs.ok.0) in
    sym (stored_is c.args.n null c.args.self.now ∙ set_past c.args.self.now c.args.n null (subst (λ vs. length vs ≤ c.args.n) c.self.view_is past))
