-- Which tokens are of a class, and whether one is next.
use Rattle.std.specs.Prelude.{Bool, false, List, [], ◌∷◌}
use Rattle.fn_tree.specs.Terminals.{is, is_literal, is_field_name, is_part, is_entry, is_comparison, is_bound_operator, is_additive, is_multiplicative, is_sign, is_suffix, is_builtin, is_lookup, is_change}
use Rattle.fn_tree.specs.declared.lexeme.Lexeme.{Lexeme}
use Rattle.fn_tree.specs.declared.lexeme.Terminal.{Terminal}
use Rattle.fn_syntax.specs.declared.parser.class.Class.{Class}
use Rattle.fn_syntax.specs.declared.parser.class.Class.TheVariants.{Only, Literal, FieldName, Part, Entry, Comparison, BoundOperator, Additive, Multiplicative, Sign, Suffix, Builtin, Lookup, Change}

-- a token is of the class
abbrev pub has : Class → Terminal → Bool
has (Only u) t = is u t
has Literal t = is_literal t
has FieldName t = is_field_name t
has Part t = is_part t
has Entry t = is_entry t
has Comparison t = is_comparison t
has BoundOperator t = is_bound_operator t
has Additive t = is_additive t
has Multiplicative t = is_multiplicative t
has Sign t = is_sign t
has Suffix t = is_suffix t
has Builtin t = is_builtin t
has Lookup t = is_lookup t
has Change t = is_change t

-- a token of the class is next
abbrev pub next_is : Class → List Lexeme → Bool
next_is k [] = false
next_is k (c ∷ ts) = has k c.terminal
