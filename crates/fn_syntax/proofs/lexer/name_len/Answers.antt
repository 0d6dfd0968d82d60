use Rattle.std.proofs.Common.{◌∙◌, rules, tests}
use Rattle.std.proofs.lemmas.Iterator.{YieldsList-from_slice}
use Rattle.std.proofs.lemmas.Iterator.Consumers.{count_from_yields_List}
use Rattle.std.proofs.lemmas.Iterator.Search.{YieldsList-from_take_while}
use Rattle.std.proofs.lemmas.List.Folds.{length-prefix_len}
use Rattle.fn_tree.specs.Lexemes.{goes_on_name}
use Rattle.fn_syntax.proofs.lexer.name_len.Goals as goal

pub returns-clause-len : goal.returns-clause-len
returns-clause-len c =
    count_from_yields_List c.take_while.result c.count.result c.count.ensures.ran
    (YieldsList-from_take_while _ goes_on_name (YieldsList-from_slice c.args.bytes.now cc) c.take_while.ensures.closure c.take_while.ensures.done (λ x b q k. search (rules, tests)))
    ∙ length-prefix_len goes_on_name c.args.bytes.now
