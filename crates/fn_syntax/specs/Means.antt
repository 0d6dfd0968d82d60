-- What the functions of the descent make of a parse.
use Rattle.std.specs.Prelude.{◌≡◌, ◌<◌, ℕ, Bool, true, false, List, map, Option, None, Some, Vec}
use Rattle.std.specs.declared.alloc.Global.{Global}
use Rattle.std.specs.Borrow.{Bor}
use Rattle.std.specs.Option.{option_map}
use Rattle.fn_tree.specs.Fronts.{Finds}
use Rattle.fn_tree.specs.Terminals.{is_sign}
use Rattle.fn_tree.specs.Grammar.{Prod, token, turns, seq, up_to, endless, rule, opt, Parse, leaf, none, pair}
use Rattle.fn_tree.specs.Language.{grammar, mark, word, closed_expression}
use Rattle.fn_tree.specs.ParseTrees as tree
use Rattle.fn_tree.specs.Rules.{bound}
use Rattle.fn_tree.specs.SyntaxTree as plain
use Rattle.fn_tree.specs.SyntaxTree.{Exprs, Entries, Bounds, Limit}
use Rattle.fn_tree.specs.SyntaxViews.{expr_view, bound_view, BoundView, exprs_of, entries_of, bounds_of, limit_of}
use Rattle.fn_tree.specs.declared.syntax.Expr.{Expr}
use Rattle.fn_tree.specs.declared.syntax.BoundExpr.{BoundExpr}
use Rattle.fn_tree.specs.declared.syntax.Named.{Named}
use Rattle.fn_tree.specs.declared.lexeme.Lexeme.{Lexeme}
use Rattle.fn_tree.specs.declared.lexeme.Mark.{Mark}
use Rattle.fn_tree.specs.declared.lexeme.Mark.TheVariants.{OpenParen, CloseParen, CloseBracket, Comma, Semicolon}
use Rattle.fn_tree.specs.declared.lexeme.Word.TheVariants.{Desc, Take}

-- the marks that close an expression
abbrev pub closes : Mark → Bool
closes CloseParen = true
closes CloseBracket = true
closes Comma = true
closes Semicolon = true
closes m = false

abbrev pub IsClosing : Mark → Type 0
IsClosing m = closes m ≡ true

-- a comma doesn't close a list
abbrev pub IsListClosing : Mark → Type 0
IsListClosing m = (closes m ≡ true) × (m ≡ Comma → ⊥)

-- an expression and the mark that closes it
abbrev pub IsClosed : List ℕ → Expr → Parse → Type 0
IsClosed s e a = expr_view e ≡ tree.closed_of s a

-- the names of a list
abbrev pub names_of : List ℕ → Parse → List Named
names_of s a = map (λ n. tree.named_of s (tree.token_of n)) (tree.commas_of a)

abbrev pub exprs_view : Vec Expr Global → Exprs
exprs_view es = exprs_of (map expr_view es.items)

abbrev pub entries_view : Vec (Named × Expr) Global → Entries
entries_view es = entries_of (map (λ p. (p.0, expr_view p.1)) es.items)

abbrev pub bounds_view : Vec BoundExpr Global → Bounds
bounds_view bs = bounds_of (map bound_view bs.items)

abbrev pub limit_view : Option Expr → Limit
limit_view l = limit_of (option_map expr_view l)

-- a parse of a field and its value
abbrev pub IsEntryOf : List ℕ → Named × plain.Expr → Parse → Type 0
IsEntryOf s e (pair n (pair colon a)) = (e.0 ≡ tree.named_of s (tree.token_of n)) × (e.1 ≡ tree.expression_of s a)
IsEntryOf s e a = ⊥

-- a parse of a field compared with a value
abbrev pub IsBoundOf : List ℕ → BoundView → Parse → Type 0
IsBoundOf s b (pair n (pair o a)) = b ≡ (tree.named_of s (tree.token_of n), tree.compare_of (tree.token_of o).terminal, tree.expression_of s a)
IsBoundOf s b a = ⊥

-- the bounds of a scan
abbrev pub bounds : Prod
bounds = turns endless (seq (mark Comma) (rule bound))

-- the most rows of a scan
abbrev pub limit : Prod
limit = opt (seq (word Take) (seq (mark OpenParen) (closed_expression CloseParen)))

-- `desc`, or nothing
pub record FindsDescending (ts : List Lexeme) (desc : Bool) (rest : List Lexeme) : Type 0 where
  pub parse : Parse
  pub finds : Finds grammar (opt (word Desc)) parse ts rest
  pub says : desc ≡ tree.is_there parse

-- a sign is next and one more may stand; or no sign stands here
abbrev pub IsSigned : ℕ → List Lexeme → Option (Lexeme × Bor (List Lexeme)) → Type 0
IsSigned most ts None = Finds grammar (turns (up_to most) (token is_sign)) none ts ts
IsSigned most ts (Some x) = (0 < most) × Finds grammar (token is_sign) (leaf x.0) ts x.1.now
