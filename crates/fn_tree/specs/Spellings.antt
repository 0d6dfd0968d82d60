-- How words and marks are written in a module text.
use Rattle.std.specs.Prelude.{ℕ, List, [], ◌∷◌, codes}
use Rattle.fn_tree.specs.declared.lexeme.Word.{Word}
use Rattle.fn_tree.specs.declared.lexeme.Word.TheVariants.{Table, Index, Query, Mutation, Helper, Let, If, Else, For, In, Return, Throw, True, False, Null, Scan, Desc, Take, Count, Get, Insert, Patch, Replace, Delete, Now, Len, Has, Push, Set, Without, Slice, Range, Show, Keys}
use Rattle.fn_tree.specs.declared.lexeme.Mark.{Mark}
use Rattle.fn_tree.specs.declared.lexeme.Mark.TheVariants.{OpenBrace, CloseBrace, OpenParen, CloseParen, OpenBracket, CloseBracket, Comma, Colon, Semicolon, Dot, Slash, Assign, Equal, NotEqual, Less, LessEqual, Greater, GreaterEqual, Plus, Minus, Star, Percent, AndAnd, OrOr, Not}

-- the bytes of a reserved word
abbrev pub word_text : Word → List ℕ
word_text Table = codes "table"
word_text Index = codes "index"
word_text Query = codes "query"
word_text Mutation = codes "mutation"
word_text Helper = codes "helper"
word_text Let = codes "let"
word_text If = codes "if"
word_text Else = codes "else"
word_text For = codes "for"
word_text In = codes "in"
word_text Return = codes "return"
word_text Throw = codes "throw"
word_text True = codes "true"
word_text False = codes "false"
word_text Null = codes "null"
word_text Scan = codes "scan"
word_text Desc = codes "desc"
word_text Take = codes "take"
word_text Count = codes "count"
word_text Get = codes "get"
word_text Insert = codes "insert"
word_text Patch = codes "patch"
word_text Replace = codes "replace"
word_text Delete = codes "delete"
word_text Now = codes "now"
word_text Len = codes "len"
word_text Has = codes "has"
word_text Push = codes "push"
word_text Set = codes "set"
word_text Without = codes "without"
word_text Slice = codes "slice"
word_text Range = codes "range"
word_text Show = codes "show"
word_text Keys = codes "keys"

-- the bytes of a mark
abbrev pub mark_text : Mark → List ℕ
mark_text OpenBrace = codes "{"
mark_text CloseBrace = codes "}"
mark_text OpenParen = codes "("
mark_text CloseParen = codes ")"
mark_text OpenBracket = codes "["
mark_text CloseBracket = codes "]"
mark_text Comma = codes ","
mark_text Colon = codes ":"
mark_text Semicolon = codes ";"
mark_text Dot = codes "."
mark_text Slash = codes "/"
mark_text Assign = codes "="
mark_text Equal = codes "=="
mark_text NotEqual = codes "!="
mark_text Less = codes "<"
mark_text LessEqual = codes "<="
mark_text Greater = codes ">"
mark_text GreaterEqual = codes ">="
mark_text Plus = codes "+"
mark_text Minus = codes "-"
mark_text Star = codes "*"
mark_text Percent = codes "%"
mark_text AndAnd = codes "&&"
mark_text OrOr = codes "||"
mark_text Not = codes "!"

-- the reserved words
abbrev pub all_words : List Word
all_words =
    Table ∷ Index ∷ Query ∷ Mutation ∷ Helper ∷ Let ∷ If ∷ Else ∷ For ∷ In ∷ Return ∷ Throw ∷ True ∷ False ∷ Null ∷ Scan ∷ Desc ∷ Take
    ∷ Count ∷ Get ∷ Insert ∷ Patch ∷ Replace ∷ Delete ∷ Now ∷ Len ∷ Has ∷ Push ∷ Set ∷ Without ∷ Slice ∷ Range ∷ Show ∷ Keys ∷ []

-- the marks, those of two bytes first
abbrev pub marks_longest_first : List Mark
marks_longest_first =
    Equal ∷ NotEqual ∷ LessEqual ∷ GreaterEqual ∷ AndAnd ∷ OrOr ∷ OpenBrace ∷ CloseBrace ∷ OpenParen ∷ CloseParen ∷ OpenBracket
    ∷ CloseBracket ∷ Comma ∷ Colon ∷ Semicolon ∷ Dot ∷ Slash ∷ Assign ∷ Less ∷ Greater ∷ Plus ∷ Minus ∷ Star ∷ Percent ∷ Not ∷ []
