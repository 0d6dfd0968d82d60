use Rattle.std.proofs.Common.{◌≡◌, ◌-◌, ◌<◌, [], length, map, reverse, take, drop, ap, sym, ◌∙◌, arith, option_map, List, Some}
use Rattle.std.proofs.lemmas.List.{length-reverse, length-map, length-take, length-drop, take_all}
use Rattle.cv_values.specs.Trees.{tree}
use Rattle.cv_values.specs.Value.{Value}
use Rattle.fn_code.specs.Operands.{popped}
use Rattle.fn_vm.proofs.Lists.{popped_few, popped_last, under_top_are}
use Rattle.fn_vm.proofs.frame.Stack.under.Goals as goal

pub returns-then-n-end : goal.returns-then-n-end
returns-then-n-end c =
    let xs = c.self.inside.items in
    let ys = take (length xs.items - c.args.top) xs.items in
    let len : length (reverse (map tree ys)) < c.args.n = omega (arith, length-reverse (map tree ys), length-map ys tree, length-take (length xs.items - c.args.top) xs.items, c.if-n-end.true, c.saturating_sub-end.ensures, c.len.ensures, xs.ok.0) in
    ap (λ vs. option_map {T = List Value × List Value} (λ p. p.0) (popped c.args.n [] (drop c.args.top vs))) (sym c.self.view_is)
    ∙ ap (λ vs. option_map {T = List Value × List Value} (λ p. p.0) (popped c.args.n [] vs)) (under_top_are c.args.top xs.items)
    ∙ ap (λ o. option_map {T = List Value × List Value} (λ p. p.0) o) (popped_few c.args.n [] (reverse (map tree ys)) len)

pub returns : goal.returns
returns c =
    let xs = c.self.inside.items in
    let end = c.saturating_sub-end.result in
    let is : end ≡ length xs.items - c.args.top = omega (arith, c.saturating_sub-end.ensures, c.len.ensures, xs.ok.0) in
    let ys = take end xs.items in
    let len : length ys ≡ end = length-take end xs.items ∙ omega (arith, is) in
    ap (λ vs. option_map {T = List Value × List Value} (λ p. p.0) (popped c.args.n [] (drop c.args.top vs))) (sym c.self.view_is)
    ∙ ap (λ vs. option_map {T = List Value × List Value} (λ p. p.0) (popped c.args.n [] vs)) (under_top_are c.args.top xs.items)
    ∙ ap (λ k. option_map {T = List Value × List Value} (λ p. p.0) (popped c.args.n [] (reverse (map tree (take k xs.items))))) (sym is)
    ∙ ap (λ o. option_map {T = List Value × List Value} (λ p. p.0) o) (popped_last c.args.n ys (omega (arith, len, c.if-n-end.false)))
    ∙ ap (λ k. Some (map tree (drop (k - c.args.n) ys))) len
    ∙ ap (λ items. Some (map tree (drop (end - c.args.n) (take end items)))) (sym c.as_slice.ensures.value)
    ∙ ap (λ vs. Some (map tree vs)) (sym (take_all (length (take end c.as_slice.result.now) - (end - c.args.n)) (drop (end - c.args.n) (take end c.as_slice.result.now)) (omega (arith, length-drop (end - c.args.n) (take end c.as_slice.result.now)))))
