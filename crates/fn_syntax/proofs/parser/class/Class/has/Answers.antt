use Rattle.std.proofs.Common.{rules}
use Rattle.fn_tree.proofs.Tokens.{is_told}
use Rattle.fn_syntax.proofs.parser.class.Class.has.Goals as goal

pub returns-in-Only : goal.returns-in-Only
returns-in-Only c = rw c.in-Only.is (is_told c.eq.result c.in-Only.only c.args.terminal (λ h. search rules) (λ h. search rules))
