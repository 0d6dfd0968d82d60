use Rattle.std.proofs.Common.{◌≡◌, map, take, drop}
use Rattle.fn_tree.specs.Actions.{Site}
use Rattle.fn_tree.specs.Functions.{found_in}
use Rattle.fn_tree.specs.SyntaxViews.{function_view}
use Rattle.fn_plain.specs.States.{site_after}
use Rattle.fn_plain.proofs.runs.find_function.Given as goal

-- what is looked for is found among the functions that are left
abbrev pub invariant-loop-number : goal.invariant-loop-number
invariant-loop-number l =
    (site : Site) → found_in l.kind l.udf site (map function_view l.functions)
    ≡ found_in l.kind l.udf (site_after site (take l.number (map function_view l.functions))) (drop l.number (map function_view l.functions))
