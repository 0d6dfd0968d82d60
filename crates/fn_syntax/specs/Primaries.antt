-- What a token begins.
use Rattle.std.specs.Prelude.{List, [], ◌∷◌, Option, Some, None}
use Rattle.fn_tree.specs.declared.lexeme.Lexeme.{Lexeme}
use Rattle.fn_tree.specs.declared.lexeme.Terminal.{Terminal}
use Rattle.fn_tree.specs.declared.lexeme.Terminal.TheVariants.{Name, Integer, Str, Word as ReservedWord, Mark as Punctuation}
use Rattle.fn_tree.specs.declared.lexeme.Word as word
use Rattle.fn_tree.specs.declared.lexeme.Word.TheVariants as words
use Rattle.fn_tree.specs.declared.lexeme.Mark as mark
use Rattle.fn_tree.specs.declared.lexeme.Mark.TheVariants as marks
use Rattle.fn_syntax.specs.declared.parser.primary.PrimaryKind.{PrimaryKind}
use Rattle.fn_syntax.specs.declared.parser.primary.PrimaryKind.TheVariants.{Literal, Named, Builtin, Array, Object, Group, Scan, Count, Lookup, Moment, Insertion, Change}

abbrev pub marked : mark.Mark → Option PrimaryKind
marked marks.OpenBracket = Some Array
marked marks.OpenBrace = Some Object
marked marks.OpenParen = Some Group
marked m = None

abbrev pub worded : word.Word → Option PrimaryKind
worded words.True = Some Literal
worded words.False = Some Literal
worded words.Null = Some Literal
worded words.Scan = Some Scan
worded words.Count = Some Count
worded words.Get = Some Lookup
worded words.Delete = Some Lookup
worded words.Now = Some Moment
worded words.Insert = Some Insertion
worded words.Patch = Some Change
worded words.Replace = Some Change
worded words.Len = Some Builtin
worded words.Has = Some Builtin
worded words.Push = Some Builtin
worded words.Set = Some Builtin
worded words.Without = Some Builtin
worded words.Slice = Some Builtin
worded words.Range = Some Builtin
worded words.Show = Some Builtin
worded words.Keys = Some Builtin
worded w = None

-- the alternative of a primary expression that a token begins
abbrev pub primary_of : Terminal → Option PrimaryKind
primary_of Integer = Some Literal
primary_of Str = Some Literal
primary_of Name = Some Named
primary_of (Punctuation m) = marked m
primary_of (ReservedWord w) = worded w

-- the one that the next token begins
abbrev pub next_primary : List Lexeme → Option PrimaryKind
next_primary [] = None
next_primary (c ∷ ts) = primary_of c.terminal
