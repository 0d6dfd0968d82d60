use Rattle.std.proofs.Common.{refl}
use Rattle.fn_tree.specs.Grammar.{in_left, in_right, none}
use Rattle.fn_tree.proofs.Fronts.{takes_reads}
use Rattle.fn_syntax.proofs.Descent.{makes_in, left_out, not_shorter}
use Rattle.fn_syntax.proofs.parser.read.descending.Goals as goal

pub returns-in-Some-clause-is : goal.returns-in-Some-clause-is
returns-in-Some-clause-is c =
    let f = c.in-Some.ensures.is in
    record { parse = in_left _; finds = (makes_in (takes_reads f.takes) (not_shorter c.in-Some.ensures.shorter)).found _ _ f; says = refl }

pub returns-in-None-clause-is : goal.returns-in-None-clause-is
returns-in-None-clause-is c = record { parse = in_right none; finds = left_out c.in-None.ensures.is; says = refl }
