-- The levels of operators, loosest first.
use Rattle.std.specs.Prelude.{ℕ, List}
use Rattle.fn_tree.specs.Grammar.{Parse}
use Rattle.fn_tree.specs.ParseTrees.{expression_of, ors_of, conjunction_of, ands_of, comparison_of, sum_of, addends_of, term_of, factors_of, unary_of}
use Rattle.fn_tree.specs.Rules.{Rule, expression, conjunction, comparison, sum, term, unary}
use Rattle.fn_tree.specs.SyntaxTree.{Expr}
use Rattle.fn_tree.specs.declared.lexeme.Mark.TheVariants.{AndAnd, OrOr}
use Rattle.fn_tree.specs.declared.lexeme.Terminal.TheVariants.{Mark as Punctuation}
use Rattle.fn_syntax.specs.declared.parser.class.Class.{Class}
use Rattle.fn_syntax.specs.declared.parser.class.Class.TheVariants.{Only, Additive, Multiplicative}
use Rattle.fn_syntax.specs.declared.parser.expression.Level.{Level}
use Rattle.fn_syntax.specs.declared.parser.expression.Level.TheVariants.{Or, And, Sum, Term}

-- the production of a level
abbrev pub rule_of : Level → Rule
rule_of Or = expression
rule_of And = conjunction
rule_of Sum = sum
rule_of Term = term

-- the production of its operands
abbrev pub operand_of : Level → Rule
operand_of Or = conjunction
operand_of And = comparison
operand_of Sum = term
operand_of Term = unary

-- its operators
abbrev pub operators_of : Level → Class
operators_of Or = Only (Punctuation OrOr)
operators_of And = Only (Punctuation AndAnd)
operators_of Sum = Additive
operators_of Term = Multiplicative

-- what a parse says, of the level and of its operands
abbrev pub tree_of : Level → List ℕ → Parse → Expr
tree_of Or s a = expression_of s a
tree_of And s a = conjunction_of s a
tree_of Sum s a = sum_of s a
tree_of Term s a = term_of s a

abbrev pub operand_tree_of : Level → List ℕ → Parse → Expr
operand_tree_of Or s a = conjunction_of s a
operand_tree_of And s a = comparison_of s a
operand_tree_of Sum s a = term_of s a
operand_tree_of Term s a = unary_of s a

-- what further operators and operands make of an expression
abbrev pub goes_on : Level → List ℕ → Expr → Parse → Expr
goes_on Or s e a = ors_of s e a
goes_on And s e a = ands_of s e a
goes_on Sum s e a = addends_of s e a
goes_on Term s e a = factors_of s e a
