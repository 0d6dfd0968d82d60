use Rattle.std.proofs.Common.{length, ℕ, ◌+◌, ◌*◌, map}
use Rattle.fn_tree.specs.SyntaxViews.{expr_view, bound_view}
use Rattle.fn_syntax.specs.declared.parser.expression.Level.{Level}
use Rattle.fn_syntax.specs.declared.parser.expression.Level.TheVariants.{Or, And, Sum, Term}
use Rattle.fn_syntax.proofs.Chains.{Chained, Suffixed}
use Rattle.fn_syntax.proofs.Items.{Exprs_so_far, Entries_so_far, Bounds_so_far}
use Rattle.fn_syntax.proofs.parser.+expressions.Given as goal

-- how many calls down a level stands above the tightest one
abbrev height : Level → ℕ
height Or = 7
height And = 5
height Sum = 2
height Term = 0

abbrev pub decreases-expression::chain : goal.decreases-expression::chain
decreases-expression::chain l = 16 * length l.tokens.now + (5 + height l.level)

abbrev pub decreases-expression::operand : goal.decreases-expression::operand
decreases-expression::operand l = 16 * length l.tokens.now + (4 + height l.level)

abbrev pub decreases-expression::comparison : goal.decreases-expression::comparison
decreases-expression::comparison l = 16 * length l.tokens.now + (8)

abbrev pub decreases-expression::unary : goal.decreases-expression::unary
decreases-expression::unary l = 16 * length l.tokens.now + (3)

abbrev pub decreases-expression::postfix : goal.decreases-expression::postfix
decreases-expression::postfix l = 16 * length l.tokens.now + (2)

abbrev pub decreases-expression::suffix : goal.decreases-expression::suffix
decreases-expression::suffix l = 16 * length l.tokens.now + (0)

abbrev pub decreases-expression::expression : goal.decreases-expression::expression
decreases-expression::expression l = 16 * length l.tokens.now + (13)

abbrev pub decreases-expression::closed_expression : goal.decreases-expression::closed_expression
decreases-expression::closed_expression l = 16 * length l.tokens.now + (14)

abbrev pub decreases-list::expression_list : goal.decreases-list::expression_list
decreases-list::expression_list l = 16 * length l.tokens.now + (14)

abbrev pub decreases-list::expressions : goal.decreases-list::expressions
decreases-list::expressions l = 16 * length l.tokens.now + (15)

abbrev pub decreases-list::entry : goal.decreases-list::entry
decreases-list::entry l = 16 * length l.tokens.now + (0)

abbrev pub decreases-list::entry_list : goal.decreases-list::entry_list
decreases-list::entry_list l = 16 * length l.tokens.now + (1)

abbrev pub decreases-list::entries : goal.decreases-list::entries
decreases-list::entries l = 16 * length l.tokens.now + (2)

abbrev pub decreases-primary::primary : goal.decreases-primary::primary
decreases-primary::primary l = 16 * length l.tokens.now + (1)

abbrev pub decreases-primary::array : goal.decreases-primary::array
decreases-primary::array l = 16 * length l.tokens.now + (0)

abbrev pub decreases-primary::builtin_call : goal.decreases-primary::builtin_call
decreases-primary::builtin_call l = 16 * length l.tokens.now + (0)

abbrev pub decreases-primary::group : goal.decreases-primary::group
decreases-primary::group l = 16 * length l.tokens.now + (0)

abbrev pub decreases-primary::named : goal.decreases-primary::named
decreases-primary::named l = 16 * length l.tokens.now + (0)

abbrev pub decreases-primary::object : goal.decreases-primary::object
decreases-primary::object l = 16 * length l.tokens.now + (0)

abbrev pub decreases-read::bound : goal.decreases-read::bound
decreases-read::bound l = 16 * length l.tokens.now + (0)

abbrev pub decreases-read::bounds : goal.decreases-read::bounds
decreases-read::bounds l = 16 * length l.tokens.now + (0)

abbrev pub decreases-read::change : goal.decreases-read::change
decreases-read::change l = 16 * length l.tokens.now + (0)

abbrev pub decreases-read::insertion : goal.decreases-read::insertion
decreases-read::insertion l = 16 * length l.tokens.now + (0)

abbrev pub decreases-read::limit : goal.decreases-read::limit
decreases-read::limit l = 16 * length l.tokens.now + (0)

abbrev pub decreases-read::lookup : goal.decreases-read::lookup
decreases-read::lookup l = 16 * length l.tokens.now + (0)

abbrev pub decreases-read::scan : goal.decreases-read::scan
decreases-read::scan l = 16 * length l.tokens.now + (0)

abbrev pub invariant-expression::chain-loop-turn : goal.invariant-expression::chain-loop-turn
invariant-expression::chain-loop-turn l = Chained l.level l.text (expr_view l.left) l._turn l.tokens l.rest

abbrev pub invariant-expression::postfix-loop-turn : goal.invariant-expression::postfix-loop-turn
invariant-expression::postfix-loop-turn l = Suffixed l.text (expr_view l.value) l._turn l.tokens l.rest

abbrev pub invariant-list::entry_list-loop-after : goal.invariant-list::entry_list-loop-after
invariant-list::entry_list-loop-after l = Entries_so_far l.text (map (λ p. (p.0, expr_view p.1)) l.entries) l.tokens l.rest

abbrev pub decreases-list::entry_list-loop-after : goal.decreases-list::entry_list-loop-after
decreases-list::entry_list-loop-after l = length l.rest

abbrev pub invariant-list::expression_list-loop-after : goal.invariant-list::expression_list-loop-after
invariant-list::expression_list-loop-after l = Exprs_so_far l.text (map expr_view l.values) l.tokens l.rest

abbrev pub decreases-list::expression_list-loop-after : goal.decreases-list::expression_list-loop-after
decreases-list::expression_list-loop-after l = length l.rest

abbrev pub invariant-read::bounds-loop-after : goal.invariant-read::bounds-loop-after
invariant-read::bounds-loop-after l = Bounds_so_far l.text (map bound_view l.bounds) l.tokens l.rest

abbrev pub decreases-read::bounds-loop-after : goal.decreases-read::bounds-loop-after
decreases-read::bounds-loop-after l = length l.rest
