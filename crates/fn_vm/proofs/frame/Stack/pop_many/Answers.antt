use Rattle.std.proofs.Common.{◌≡◌, ◌-◌, [], ap, sym, ◌∙◌, arith, length, map, reverse, Some, ap₂, take, drop}
use Rattle.std.proofs.lemmas.List.{length-reverse, length-map}
use Rattle.cv_values.specs.Trees.{tree}
use Rattle.fn_code.specs.Operands.{popped}
use Rattle.fn_vm.proofs.Lists.{popped_few, popped_last}
use Rattle.fn_vm.proofs.frame.Stack.pop_many.Goals as goal

pub returns-then-n-len : goal.returns-then-n-len
returns-then-n-len c =
    let xs = c.self.inside.items in
    let len = length-reverse (map tree xs.items) ∙ length-map xs.items tree in
    ap (popped c.args.n []) (sym c.self.view_is) ∙ popped_few c.args.n [] (reverse (map tree xs.items)) (omega (arith, len, c.if-n-len.true, c.len-len.ensures, xs.ok.0))

pub returns : goal.returns
returns c =
    let xs = c.self.inside.items in
    let len : c.len-len.result ≡ length xs.items = omega (arith, c.len-len.ensures, xs.ok.0) in
    let parts = c.in_ok-split_off.ensures in
    ap (popped c.args.n []) (sym c.self.view_is)
    ∙ popped_last c.args.n xs.items (omega (arith, len, c.if-n-len.false))
    ∙ ap₂ (λ vs rest. Some (map tree vs, reverse (map tree rest)))
    (ap (λ k. drop (k - c.args.n) xs.items) (sym len) ∙ sym parts.tail)
    (ap (λ k. take (k - c.args.n) xs.items) (sym len) ∙ sym parts.items)
