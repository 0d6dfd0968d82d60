-- How deep brackets stand in one another.
use Rattle.std.specs.Prelude.{ℕ, ◌+◌, ◌-◌, Bool, true, false, ◌&&◌, nat_le, if◌then◌else◌, List, [], ◌∷◌, Option, Some, None}
use Rattle.std.specs.Option.{option_map}
use Rattle.fn_tree.specs.declared.lexeme.Lexeme.{Lexeme}
use Rattle.fn_tree.specs.declared.lexeme.Mark.TheVariants.{OpenBrace, CloseBrace, OpenParen, CloseParen, OpenBracket, CloseBracket}
use Rattle.fn_tree.specs.declared.lexeme.Terminal.{Terminal}
use Rattle.fn_tree.specs.declared.lexeme.Terminal.TheVariants.{Mark as Marked}

-- `{`, `(` or `[`
abbrev pub opens : Terminal → Bool
opens (Marked OpenBrace) = true
opens (Marked OpenParen) = true
opens (Marked OpenBracket) = true
opens _ = false

-- `}`, `)` or `]`
abbrev pub closes : Terminal → Bool
closes (Marked CloseBrace) = true
closes (Marked CloseParen) = true
closes (Marked CloseBracket) = true
closes _ = false

-- how many brackets are open after a token: opened less closed, never below 0
abbrev pub open_after : ℕ → Terminal → ℕ
open_after open_before t = if opens t then open_before + 1 else (if closes t then open_before - 1 else open_before)

-- the index of the first token that opens a bracket inside so many or more
abbrev pub first_deeper : ℕ → ℕ → List Lexeme → Option ℕ
first_deeper limit open_before [] = None
first_deeper limit open_before (x ∷ xs) =
    if opens x.terminal && nat_le limit open_before then Some 0 else option_map (λ k. k + 1) (first_deeper limit (open_after open_before x.terminal) xs)

-- the index of the first token that opens a bracket inside 32
abbrev pub first_too_deep : List Lexeme → Option ℕ
first_too_deep xs = first_deeper 32 0 xs
