-- The canonical text of a module: its tokens, each behind a blank, but for the first token of a table or a function.
use Rattle.std.specs.Prelude.{ℕ, Bool, true, false, ◌==◌, ◌||◌, if◌then◌else◌, List, [], ◌∷◌, ◌++◌, codes}
use Rattle.std.specs.Fmt.{signed_decimal}
use Rattle.std.specs.List.{flat_map}
use Rattle.fn_tree.specs.Spellings.{word_text, mark_text}
use Rattle.fn_tree.specs.SyntaxTree.{Expr, expr, Form, integer, string, truth, nothing, variable, call, builtin, items, entries, group, scan, count, get, now, insert, delete, patch, replace, field, item, unary, binary, Exprs, no_exprs, then_expr, Entries, no_entries, entry, Bounds, no_bounds, bound, Limit, all_rows, up_to, Stmt, stmt, Act, declare, assign, evaluate, choose, each, give_back, throw, Stmts, no_stmts, then_stmt, Else, no_else, or_else, FunctionTree, IndexTree, TableTree, ModuleTree}
use Rattle.fn_tree.specs.declared.lexeme.Mark.{Mark}
use Rattle.fn_tree.specs.declared.lexeme.Mark.TheVariants as marks
use Rattle.fn_tree.specs.declared.lexeme.Mark.TheVariants.{OpenBrace, CloseBrace, OpenParen, CloseParen, OpenBracket, CloseBracket, Comma, Colon, Semicolon, Dot, Assign}
use Rattle.fn_tree.specs.declared.lexeme.Word.{Word}
use Rattle.fn_tree.specs.declared.lexeme.Word.TheVariants as words
use Rattle.fn_tree.specs.declared.syntax.BinaryOp.{BinaryOp}
use Rattle.fn_tree.specs.declared.syntax.BinaryOp.TheVariants as operator
use Rattle.fn_tree.specs.declared.syntax.Builtin.{Builtin}
use Rattle.fn_tree.specs.declared.syntax.Builtin.TheVariants as function
use Rattle.fn_tree.specs.declared.syntax.CompareOp.{CompareOp}
use Rattle.fn_tree.specs.declared.syntax.CompareOp.TheVariants as compare
use Rattle.fn_tree.specs.declared.syntax.Kind.{Kind}
use Rattle.fn_tree.specs.declared.syntax.Kind.TheVariants as kind
use Rattle.fn_tree.specs.declared.syntax.Named.{Named}
use Rattle.fn_tree.specs.declared.syntax.UnaryOp.{UnaryOp}
use Rattle.fn_tree.specs.declared.syntax.UnaryOp.TheVariants as sign

-- ---- tokens

-- a token behind a blank
abbrev pub token : List ℕ → List ℕ
token t = 32 ∷ t

-- a reserved word behind a blank
abbrev pub word : Word → List ℕ
word w = token (word_text w)

-- a mark behind a blank
abbrev pub mark : Mark → List ℕ
mark m = token (mark_text m)

-- how a byte is written in a string
abbrev pub escaped : ℕ → List ℕ
escaped b = if b == 34 then codes "\\\"" else (if b == 92 then codes "\\\\" else (if b == 10 then codes "\\n" else (if b == 9 then codes "\\t" else b ∷ [])))

-- a text as a string
abbrev pub quoted : List ℕ → List ℕ
quoted text = codes "\"" ++ flat_map escaped text ++ codes "\""

-- a name, which is a string where it was written as one
unfoldable pub name_text : Named → List ℕ
name_text n = token (if n.quoted then quoted n.text else n.text)

-- a slash or a colon with a blank on each side
abbrev pub apart : ℕ → List ℕ
apart b = if (b == 47) || (b == 58) then 32 ∷ b ∷ 32 ∷ [] else b ∷ []

-- a path's parts and the marks between them
abbrev pub path_text : List ℕ → List ℕ
path_text udf = token (flat_map apart udf)

-- ---- operators and built-in functions

abbrev pub comparison_mark : CompareOp → Mark
comparison_mark compare.Equal = marks.Equal
comparison_mark compare.NotEqual = marks.NotEqual
comparison_mark compare.Less = marks.Less
comparison_mark compare.LessEqual = marks.LessEqual
comparison_mark compare.Greater = marks.Greater
comparison_mark compare.GreaterEqual = marks.GreaterEqual

abbrev pub operator_mark : BinaryOp → Mark
operator_mark operator.Or = marks.OrOr
operator_mark operator.And = marks.AndAnd
operator_mark (operator.Compare op) = comparison_mark op
operator_mark operator.Add = marks.Plus
operator_mark operator.Subtract = marks.Minus
operator_mark operator.Multiply = marks.Star
operator_mark operator.Divide = marks.Slash
operator_mark operator.Remainder = marks.Percent

abbrev pub sign_mark : UnaryOp → Mark
sign_mark sign.Negate = marks.Minus
sign_mark sign.Not = marks.Not

abbrev pub builtin_word : Builtin → Word
builtin_word function.Len = words.Len
builtin_word function.Has = words.Has
builtin_word function.Push = words.Push
builtin_word function.Set = words.Set
builtin_word function.Without = words.Without
builtin_word function.Slice = words.Slice
builtin_word function.Range = words.Range
builtin_word function.Show = words.Show
builtin_word function.Keys = words.Keys

abbrev pub truth_word : Bool → Word
truth_word true = words.True
truth_word false = words.False

-- ---- expressions

-- a comma, but for the first of some parts
abbrev pub comma : Bool → List ℕ
comma true = []
comma false = mark Comma

-- `desc`, or nothing
abbrev pub order_text : Bool → List ℕ
order_text true = word words.Desc
order_text false = []

abbrev mutual
  pub expr_text : Expr → List ℕ
  expr_text (expr at f) = form_text f

  pub form_text : Form → List ℕ
  form_text (integer z) = token (signed_decimal z)
  form_text (string s) = token (quoted s)
  form_text (truth b) = word (truth_word b)
  form_text nothing = word words.Null
  form_text (variable x) = token x
  form_text (call f es) = token f ++ mark OpenParen ++ exprs_text true es ++ mark CloseParen
  form_text (builtin b es) = word (builtin_word b) ++ mark OpenParen ++ exprs_text true es ++ mark CloseParen
  form_text (items es) = mark OpenBracket ++ exprs_text true es ++ mark CloseBracket
  form_text (entries es) = mark OpenBrace ++ entries_text true es ++ mark CloseBrace
  form_text (group e) = mark OpenParen ++ expr_text e ++ mark CloseParen
  form_text (scan t i bs desc l) = word words.Scan ++ mark OpenParen ++ name_text t ++ mark Comma ++ name_text i ++ bounds_text bs ++ mark CloseParen ++ order_text desc ++ limit_text l
  form_text (count t) = word words.Count ++ mark OpenParen ++ name_text t ++ mark CloseParen
  form_text (get e) = word words.Get ++ mark OpenParen ++ expr_text e ++ mark CloseParen
  form_text now = word words.Now ++ mark OpenParen ++ mark CloseParen
  form_text (insert t e) = word words.Insert ++ mark OpenParen ++ name_text t ++ mark Comma ++ expr_text e ++ mark CloseParen
  form_text (delete e) = word words.Delete ++ mark OpenParen ++ expr_text e ++ mark CloseParen
  form_text (patch e o) = word words.Patch ++ mark OpenParen ++ expr_text e ++ mark Comma ++ expr_text o ++ mark CloseParen
  form_text (replace e o) = word words.Replace ++ mark OpenParen ++ expr_text e ++ mark Comma ++ expr_text o ++ mark CloseParen
  form_text (field e n) = expr_text e ++ mark Dot ++ name_text n
  form_text (item e i) = expr_text e ++ mark OpenBracket ++ expr_text i ++ mark CloseBracket
  form_text (unary op e) = mark (sign_mark op) ++ expr_text e
  form_text (binary op a b) = expr_text a ++ mark (operator_mark op) ++ expr_text b

  -- expressions with commas between them; `first` says that none stands before these
  pub exprs_text : Bool → Exprs → List ℕ
  exprs_text first no_exprs = []
  exprs_text first (then_expr e es) = comma first ++ expr_text e ++ exprs_text false es

  -- entries with commas between them
  pub entries_text : Bool → Entries → List ℕ
  entries_text first no_entries = []
  entries_text first (entry n e es) = comma first ++ name_text n ++ mark Colon ++ expr_text e ++ entries_text false es

  -- bounds, each behind a comma
  pub bounds_text : Bounds → List ℕ
  bounds_text no_bounds = []
  bounds_text (bound n op e bs) = mark Comma ++ name_text n ++ mark (comparison_mark op) ++ expr_text e ++ bounds_text bs

  pub limit_text : Limit → List ℕ
  limit_text all_rows = []
  limit_text (up_to e) = word words.Take ++ mark OpenParen ++ expr_text e ++ mark CloseParen

-- ---- statements

abbrev pub in_braces : List ℕ → List ℕ
in_braces inside = mark OpenBrace ++ inside ++ mark CloseBrace

abbrev mutual
  pub stmt_text : Stmt → List ℕ
  stmt_text (stmt at a) = act_text a

  pub act_text : Act → List ℕ
  act_text (declare n e) = word words.Let ++ name_text n ++ mark Assign ++ expr_text e ++ mark Semicolon
  act_text (assign n e) = name_text n ++ mark Assign ++ expr_text e ++ mark Semicolon
  act_text (evaluate e) = expr_text e ++ mark Semicolon
  act_text (choose e ss o) = word words.If ++ mark OpenParen ++ expr_text e ++ mark CloseParen ++ in_braces (stmts_text ss) ++ else_text o
  act_text (each n e ss) = word words.For ++ mark OpenParen ++ name_text n ++ word words.In ++ expr_text e ++ mark CloseParen ++ in_braces (stmts_text ss)
  act_text (give_back e) = word words.Return ++ expr_text e ++ mark Semicolon
  act_text (throw e) = word words.Throw ++ expr_text e ++ mark Semicolon

  pub stmts_text : Stmts → List ℕ
  stmts_text no_stmts = []
  stmts_text (then_stmt s ss) = stmt_text s ++ stmts_text ss

  pub else_text : Else → List ℕ
  else_text no_else = []
  else_text (or_else ss) = word words.Else ++ in_braces (stmts_text ss)

abbrev pub block_text : Stmts → List ℕ
block_text ss = in_braces (stmts_text ss)

-- ---- declarations

-- names with commas between them
abbrev pub names_text : Bool → List Named → List ℕ
names_text first [] = []
names_text first (n ∷ ns) = comma first ++ name_text n ++ names_text false ns

abbrev pub kind_word : Kind → Word
kind_word kind.Query = words.Query
kind_word kind.Mutation = words.Mutation
kind_word kind.Helper = words.Helper

abbrev pub index_text : IndexTree → List ℕ
index_text i = word words.Index ++ name_text i.name ++ mark OpenParen ++ names_text true i.fields ++ mark CloseParen ++ mark Semicolon

-- a table, with a line feed behind it
abbrev pub table_text : TableTree → List ℕ
table_text t = word_text words.Table ++ name_text t.name ++ mark OpenBrace ++ flat_map index_text t.indexes ++ mark CloseBrace ++ codes "\n"

-- a function, with a line feed behind it
abbrev pub function_text : FunctionTree → List ℕ
function_text f = word_text (kind_word f.kind) ++ path_text f.udf ++ mark OpenParen ++ names_text true f.params ++ mark CloseParen ++ block_text f.body ++ codes "\n"

-- the tables and then the functions
abbrev pub canonical_text : ModuleTree → List ℕ
canonical_text m = flat_map table_text m.tables ++ flat_map function_text m.functions
