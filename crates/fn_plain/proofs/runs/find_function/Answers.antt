use Rattle.std.proofs.Common.{◌∙◌, map, sym}
use Rattle.fn_tree.specs.SyntaxViews.{function_view}
use Rattle.fn_plain.proofs.Starts.{number-of, found-at, found-past}
use Rattle.fn_plain.proofs.runs.find_function.Goals as goal

pub returns-then-is_called-clause-found : goal.returns-then-is_called-clause-found
returns-then-is_called-clause-found c site =
    let f = c.index-functions-number.result in
    c.loop-number.invariant site
    ∙ found-at c.args.kind c.args.udf.now site (map function_view c.args.functions.now) c.loop-number.number (function_view f)
    (number-of c.args.functions.now c.loop-number.number f c.loop-number-test.true c.index-functions-number.is)
    (sym c.is_called.ensures ∙ c.if-is_called.true)

pub loop-number-preserved : goal.loop-number-preserved
loop-number-preserved c site =
    let f = c.index-functions-number.result in
    c.loop-number.invariant site
    ∙ found-past c.args.kind c.args.udf.now site (map function_view c.args.functions.now) c.loop-number.number (function_view f)
    (number-of c.args.functions.now c.loop-number.number f c.loop-number-test.true c.index-functions-number.is)
    (sym c.is_called.ensures ∙ c.if-is_called.false)
