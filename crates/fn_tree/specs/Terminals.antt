-- Classes of tokens.
use Rattle.std.specs.Prelude.{ℕ, ◌+◌, Bool, true, false, nat_eq}
use Rattle.fn_tree.specs.declared.lexeme.Terminal.{Terminal}
use Rattle.fn_tree.specs.declared.lexeme.Terminal.TheVariants.{Name, Integer, Str, Word as ReservedWord, Mark as Punctuation}
use Rattle.fn_tree.specs.declared.lexeme.Word.{Word}
use Rattle.fn_tree.specs.declared.lexeme.Word.TheVariants.{Table, Index, Query, Mutation, Helper, Let, If, Else, For, In, Return, Throw, True, False, Null, Scan, Desc, Take, Count, Get, Insert, Patch, Replace, Delete, Now, Len, Has, Push, Set, Without, Slice, Range, Show, Keys}
use Rattle.fn_tree.specs.declared.lexeme.Mark.{Mark}
use Rattle.fn_tree.specs.declared.lexeme.Mark.TheVariants.{OpenBrace, CloseBrace, OpenParen, CloseParen, OpenBracket, CloseBracket, Comma, Colon, Semicolon, Dot, Slash, Assign, Equal, NotEqual, Less, LessEqual, Greater, GreaterEqual, Plus, Minus, Star, Percent, AndAnd, OrOr, Not}

-- each reserved word has a number of its own
abbrev pub word_number : Word → ℕ
word_number Table = 0
word_number Index = 1
word_number Query = 2
word_number Mutation = 3
word_number Helper = 4
word_number Let = 5
word_number If = 6
word_number Else = 7
word_number For = 8
word_number In = 9
word_number Return = 10
word_number Throw = 11
word_number True = 12
word_number False = 13
word_number Null = 14
word_number Scan = 15
word_number Desc = 16
word_number Take = 17
word_number Count = 18
word_number Get = 19
word_number Insert = 20
word_number Patch = 21
word_number Replace = 22
word_number Delete = 23
word_number Now = 24
word_number Len = 25
word_number Has = 26
word_number Push = 27
word_number Set = 28
word_number Without = 29
word_number Slice = 30
word_number Range = 31
word_number Show = 32
word_number Keys = 33

-- and so has each mark
abbrev pub mark_number : Mark → ℕ
mark_number OpenBrace = 0
mark_number CloseBrace = 1
mark_number OpenParen = 2
mark_number CloseParen = 3
mark_number OpenBracket = 4
mark_number CloseBracket = 5
mark_number Comma = 6
mark_number Colon = 7
mark_number Semicolon = 8
mark_number Dot = 9
mark_number Slash = 10
mark_number Assign = 11
mark_number Equal = 12
mark_number NotEqual = 13
mark_number Less = 14
mark_number LessEqual = 15
mark_number Greater = 16
mark_number GreaterEqual = 17
mark_number Plus = 18
mark_number Minus = 19
mark_number Star = 20
mark_number Percent = 21
mark_number AndAnd = 22
mark_number OrOr = 23
mark_number Not = 24

-- and so has what a token is to the grammar
abbrev pub number : Terminal → ℕ
number Name = 0
number Integer = 1
number Str = 2
number (ReservedWord w) = 3 + word_number w
number (Punctuation m) = 37 + mark_number m

-- just this one
abbrev pub is : Terminal → Terminal → Bool
is t u = nat_eq (number t) (number u)

-- an integer, a string, true, false or null
abbrev pub is_literal : Terminal → Bool
is_literal Integer = true
is_literal Str = true
is_literal (ReservedWord True) = true
is_literal (ReservedWord False) = true
is_literal (ReservedWord Null) = true
is_literal t = false

-- a name or a string
abbrev pub is_field_name : Terminal → Bool
is_field_name Name = true
is_field_name Str = true
is_field_name t = false

-- a part of a function's path: a name or any reserved word
abbrev pub is_part : Terminal → Bool
is_part Name = true
is_part (ReservedWord w) = true
is_part t = false

-- `query` or `mutation`
abbrev pub is_entry : Terminal → Bool
is_entry (ReservedWord Query) = true
is_entry (ReservedWord Mutation) = true
is_entry t = false

abbrev pub is_comparison : Terminal → Bool
is_comparison (Punctuation Equal) = true
is_comparison (Punctuation NotEqual) = true
is_comparison (Punctuation Less) = true
is_comparison (Punctuation LessEqual) = true
is_comparison (Punctuation Greater) = true
is_comparison (Punctuation GreaterEqual) = true
is_comparison t = false

-- the comparisons of a bound
abbrev pub is_bound_operator : Terminal → Bool
is_bound_operator (Punctuation Equal) = true
is_bound_operator (Punctuation Less) = true
is_bound_operator (Punctuation LessEqual) = true
is_bound_operator (Punctuation Greater) = true
is_bound_operator (Punctuation GreaterEqual) = true
is_bound_operator t = false

abbrev pub is_or : Terminal → Bool
is_or = is (Punctuation OrOr)

abbrev pub is_and : Terminal → Bool
is_and = is (Punctuation AndAnd)

-- `+` or `-`
abbrev pub is_additive : Terminal → Bool
is_additive (Punctuation Plus) = true
is_additive (Punctuation Minus) = true
is_additive t = false

-- `*`, `/` or `%`
abbrev pub is_multiplicative : Terminal → Bool
is_multiplicative (Punctuation Star) = true
is_multiplicative (Punctuation Slash) = true
is_multiplicative (Punctuation Percent) = true
is_multiplicative t = false

-- `-` or `!`
abbrev pub is_sign : Terminal → Bool
is_sign (Punctuation Minus) = true
is_sign (Punctuation Not) = true
is_sign t = false

abbrev pub is_builtin : Terminal → Bool
is_builtin (ReservedWord Len) = true
is_builtin (ReservedWord Has) = true
is_builtin (ReservedWord Push) = true
is_builtin (ReservedWord Set) = true
is_builtin (ReservedWord Without) = true
is_builtin (ReservedWord Slice) = true
is_builtin (ReservedWord Range) = true
is_builtin (ReservedWord Show) = true
is_builtin (ReservedWord Keys) = true
is_builtin t = false

-- `get` or `delete`
abbrev pub is_lookup : Terminal → Bool
is_lookup (ReservedWord Get) = true
is_lookup (ReservedWord Delete) = true
is_lookup t = false

-- `patch` or `replace`
abbrev pub is_change : Terminal → Bool
is_change (ReservedWord Patch) = true
is_change (ReservedWord Replace) = true
is_change t = false

-- what begins a field or an item behind an expression: a dot or a bracket
abbrev pub is_suffix : Terminal → Bool
is_suffix (Punctuation Dot) = true
is_suffix (Punctuation OpenBracket) = true
is_suffix t = false
