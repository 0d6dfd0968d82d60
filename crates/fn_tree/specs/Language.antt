-- The grammar of a module text.
use Rattle.std.specs.Prelude.{Bool}
use Rattle.fn_tree.specs.Grammar.{Prod, token, seq, alt, turns, rule, up_to, endless, opt}
use Rattle.fn_tree.specs.Rules.{Rule, whole_module, table, index, function, path, parameters, block, statement, let_statement, if_statement, for_statement, return_statement, throw_statement, assignment, evaluation, expression, conjunction, comparison, sum, term, unary, postfix, suffix, primary, named, builtin_call, array, object, entry, group, scan, bound, count, lookup, moment, insertion, change}
use Rattle.fn_tree.specs.Terminals.{is, is_literal, is_field_name, is_part, is_entry, is_comparison, is_bound_operator, is_or, is_and, is_additive, is_multiplicative, is_sign, is_builtin, is_lookup, is_change}
use Rattle.fn_tree.specs.declared.lexeme.Terminal.{Terminal}
use Rattle.fn_tree.specs.declared.lexeme.Terminal.TheVariants.{Name, Str, Word as ReservedWord, Mark as Punctuation}
use Rattle.fn_tree.specs.declared.lexeme.Word.{Word}
use Rattle.fn_tree.specs.declared.lexeme.Word.TheVariants.{Table, Index, Helper, Let, If, Else, For, In, Return, Throw, Scan, Desc, Take, Count, Insert, Now}
use Rattle.fn_tree.specs.declared.lexeme.Mark.{Mark}
use Rattle.fn_tree.specs.declared.lexeme.Mark.TheVariants.{OpenBrace, CloseBrace, OpenParen, CloseParen, OpenBracket, CloseBracket, Comma, Colon, Semicolon, Dot, Slash, Assign}

abbrev pub word : Word → Prod
word w = token (is (ReservedWord w))

abbrev pub mark : Mark → Prod
mark m = token (is (Punctuation m))

abbrev pub name : Prod
name = token (is Name)

abbrev pub string : Prod
string = token (is Str)

-- a name or a string
abbrev pub field_name : Prod
field_name = token is_field_name

-- parts with commas between them
abbrev pub commas : Prod → Prod
commas p = seq p (turns endless (seq (mark Comma) p))

-- operands with at most 16 operators between them
abbrev pub chain : (Terminal → Bool) → Prod → Prod
chain operator p = seq p (turns (up_to 16) (seq (token operator) p))

-- a part, and the mark that closes it
abbrev pub closed : Mark → Prod → Prod
closed m p = seq p (mark m)

-- an expression, and the mark that closes it
abbrev pub closed_expression : Mark → Prod
closed_expression m = closed m (rule expression)

-- expressions, or none, and the mark that closes them
abbrev pub expressions : Mark → Prod
expressions m = closed m (opt (commas (rule expression)))

abbrev pub grammar : Rule → Prod
grammar whole_module = seq (turns endless (rule table)) (turns endless (rule function))
grammar table = seq (word Table) (seq name (seq (mark OpenBrace) (closed CloseBrace (turns endless (rule index)))))
grammar index = seq (word Index) (seq name (seq (mark OpenParen) (seq (commas field_name) (seq (mark CloseParen) (mark Semicolon)))))
grammar function = alt
    (seq (token is_entry) (seq (rule path) (seq (rule parameters) (rule block))))
    (seq (word Helper) (seq name (seq (rule parameters) (rule block))))
grammar path = seq (token is_part) (seq (turns endless (seq (mark Slash) (token is_part))) (seq (mark Colon) (token is_part)))
grammar parameters = seq (mark OpenParen) (closed CloseParen (opt (commas name)))
grammar block = seq (mark OpenBrace) (closed CloseBrace (turns endless (rule statement)))
grammar statement = alt (rule let_statement) (alt (rule if_statement) (alt (rule for_statement) (alt (rule return_statement) (alt (rule throw_statement) (alt (rule assignment) (rule evaluation))))))
grammar let_statement = seq (word Let) (seq name (seq (mark Assign) (closed_expression Semicolon)))
grammar if_statement = seq (word If) (seq (mark OpenParen) (seq (closed_expression CloseParen) (seq (rule block) (opt (seq (word Else) (rule block))))))
grammar for_statement = seq (word For) (seq (mark OpenParen) (seq name (seq (word In) (seq (closed_expression CloseParen) (rule block)))))
grammar return_statement = seq (word Return) (closed_expression Semicolon)
grammar throw_statement = seq (word Throw) (closed_expression Semicolon)
grammar assignment = seq name (seq (mark Assign) (closed_expression Semicolon))
grammar evaluation = closed_expression Semicolon
grammar expression = chain is_or (rule conjunction)
grammar conjunction = chain is_and (rule comparison)
grammar comparison = seq (rule sum) (opt (seq (token is_comparison) (rule sum)))
grammar sum = chain is_additive (rule term)
grammar term = chain is_multiplicative (rule unary)
grammar unary = seq (turns (up_to 16) (token is_sign)) (rule postfix)
grammar postfix = seq (rule primary) (turns (up_to 16) (rule suffix))
grammar suffix = alt (seq (mark Dot) name) (seq (mark OpenBracket) (closed_expression CloseBracket))
grammar primary = alt (token is_literal) (alt (rule named) (alt (rule builtin_call) (alt (rule array) (alt (rule object) (alt (rule group) (alt (rule scan) (alt (rule count) (alt (rule lookup) (alt (rule moment) (alt (rule insertion) (rule change)))))))))))
grammar named = seq name (opt (seq (mark OpenParen) (expressions CloseParen)))
grammar builtin_call = seq (token is_builtin) (seq (mark OpenParen) (closed CloseParen (commas (rule expression))))
grammar array = seq (mark OpenBracket) (expressions CloseBracket)
grammar object = seq (mark OpenBrace) (closed CloseBrace (opt (commas (rule entry))))
grammar entry = seq field_name (seq (mark Colon) (rule expression))
grammar group = seq (mark OpenParen) (closed_expression CloseParen)
grammar scan = seq (word Scan) (seq (mark OpenParen) (seq string (seq (mark Comma) (seq string (seq (turns endless (seq (mark Comma) (rule bound))) (seq (mark CloseParen) (seq (opt (word Desc)) (opt (seq (word Take) (seq (mark OpenParen) (closed_expression CloseParen)))))))))))
grammar bound = seq field_name (seq (token is_bound_operator) (rule expression))
grammar count = seq (word Count) (seq (mark OpenParen) (closed CloseParen string))
grammar lookup = seq (token is_lookup) (seq (mark OpenParen) (closed_expression CloseParen))
grammar moment = seq (word Now) (seq (mark OpenParen) (mark CloseParen))
grammar insertion = seq (word Insert) (seq (mark OpenParen) (seq string (seq (mark Comma) (closed_expression CloseParen))))
grammar change = seq (token is_change) (seq (mark OpenParen) (seq (closed_expression Comma) (closed_expression CloseParen)))
