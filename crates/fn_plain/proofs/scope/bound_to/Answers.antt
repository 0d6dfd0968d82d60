use Rattle.std.proofs.Common.{rules, ◌≡◌, [], length, drop, sym, ap, ◌∙◌, ◌∷◌, ◌++◌, arith, length-drop}
use Rattle.std.proofs.lemmas.List.{nil_from_length}
use Rattle.fn_plain.proofs.Variables.{unbound, bound-first, bound-step, bound-last}
use Rattle.fn_plain.proofs.scope.bound_to.Goals as goal

pub returns-then-params-len : goal.returns-then-params-len
returns-then-params-len c = let h : length c.args.values.items ≡ c.len.result = search rules in sym (unbound c.args.params.now c.args.values.items (λ e. c.if-params-len.true (e ∙ h)))

pub loop-param-init : goal.loop-param-init
loop-param-init c = record { even = search rules; so_far = bound-first _ _ c.in_ok-scope.ensures.items }

pub loop-param-preserved : goal.loop-param-preserved
loop-param-preserved c =
    let k = bound-step c.args.params.now c.loop-param.param-index c.param-item.result c.loop-param-test.true c.param-item.is
    c.loop-param.scope.items c.push.new.self.items c.loop-param.values.items c.remove-value.new.self.items c.remove-value.result
    c.remove-value.ensures.value c.remove-value.ensures.items c.loop-param.invariant.even (c.in_ok-push.ensures.items ∙ ap (λ t. c.loop-param.scope.items ++ (t, c.remove-value.result) ∷ []) c.in_ok-copy.ensures) _ c.loop-param.invariant.so_far in
    record { even = k.0; so_far = k.1 }

pub returns : goal.returns
returns c = bound-last c.loop-param.scope.items (drop c.loop-param.param-index c.args.params.now) c.loop-param.values.items _ (nil_from_length _ (omega (arith, length-drop c.loop-param.param-index c.args.params.now))) c.loop-param.invariant.even c.loop-param.invariant.so_far
