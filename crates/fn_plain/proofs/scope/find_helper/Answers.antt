use Rattle.std.proofs.Common.{◌∙◌, false, sym, ap, arith}
use Rattle.std.specs.Prelude.{option_map}
use Rattle.fn_tree.specs.Functions.{function_means}
use Rattle.fn_tree.specs.SyntaxViews.{function_view}
use Rattle.fn_plain.specs.States.{site_at}
use Rattle.std.proofs.Common.{get_or}
use Rattle.fn_plain.proofs.Helpers.{helper_found, name_next, at_number}
use Rattle.fn_plain.proofs.scope.find_helper.Goals as goal

pub returns-then-is_helper-clause-some : goal.returns-then-is_helper-clause-some
returns-then-is_helper-clause-some c =
    let x = c.args.context.now in
    let i = c.loop-number.number in
    let g = c.index-context-number.result in
    let f = function_view (get_or x.functions.now i g) in
    let there = at_number x.functions.now i g (omega (arith, c.requires.there)) in
    (omega arith, helper_found x c.args.name.now i c.args.seen f there (omega arith) (sym c.is_helper.ensures ∙ c.if-is_helper.true) c.loop-number.invariant ∙ sym (ap (option_map (function_means (site_at x i))) there))

pub loop-number-preserved : goal.loop-number-preserved
loop-number-preserved c =
    let x = c.args.context.now in
    let i = c.loop-number.number in
    let g = c.index-context-number.result in
    let f = function_view (get_or x.functions.now i g) in
    let there = at_number x.functions.now i g (omega (arith, c.requires.there)) in
    name_next x c.args.name.now i f false there (sym c.is_helper.ensures ∙ c.if-is_helper.false) c.loop-number.invariant
