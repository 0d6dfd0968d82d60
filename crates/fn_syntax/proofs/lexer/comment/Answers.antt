use Rattle.std.proofs.Common.{ap, ◌∙◌, rules, not, eqb}
use Rattle.std.proofs.lemmas.Iterator.{YieldsList-from_slice}
use Rattle.std.proofs.lemmas.Iterator.Consumers.{count_from_yields_List}
use Rattle.std.proofs.lemmas.Iterator.Search.{YieldsList-from_take_while}
use Rattle.std.proofs.lemmas.List.Folds.{length-prefix_len}
use Rattle.std.proofs.Common.{tests}
use Rattle.fn_tree.specs.Lexemes.{comment_begin}
use Rattle.fn_tree.specs.declared.begin.Begin.TheVariants.{Gap}
use Rattle.fn_syntax.proofs.lexer.comment.Goals as goal

pub returns : goal.returns
unfolding comment_begin
returns c =
    ap Gap (count_from_yields_List c.take_while.result c.count.result c.count.ensures.ran
    (YieldsList-from_take_while _ (λ b. not (eqb b 10)) (YieldsList-from_slice c.args.bytes.now cc) c.take_while.ensures.closure c.take_while.ensures.done (λ x b q k. search (rules, tests)))
    ∙ length-prefix_len (λ b. not (eqb b 10)) c.args.bytes.now)
