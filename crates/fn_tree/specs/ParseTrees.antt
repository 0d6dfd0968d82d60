-- What a parse says, over the bytes of the text: the plain syntax tree.
-- Clauses for parses of another shape give a tree too, so that each function is total; no text has such a parse.
use Rattle.std.specs.Prelude.{ℕ, pos, Bool, true, false, List, [], ◌∷◌, ◌++◌, map, codes}
use Rattle.fn_tree.specs.Grammar.{Parse, leaf, pair, in_left, in_right}
use Rattle.fn_tree.specs.LexemeValues.{slice_of, text_of, number_of, string_value}
use Rattle.fn_tree.specs.SyntaxTree.{Expr, expr, Form, integer, string, truth, nothing, variable, call, builtin, items, entries, group, scan, count, get, now, insert, delete, patch, replace, field, item, unary, binary, Exprs, no_exprs, then_expr, Entries, no_entries, entry, Bounds, no_bounds, bound, Limit, all_rows, up_to, Stmt, stmt, declare, assign, evaluate, choose, each, give_back, throw, Stmts, no_stmts, then_stmt, Else, no_else, or_else, FunctionTree, IndexTree, TableTree, ModuleTree}
use Rattle.fn_tree.specs.declared.lexeme.Lexeme.{Lexeme}
use Rattle.fn_tree.specs.declared.lexeme.Terminal.{Terminal}
use Rattle.fn_tree.specs.declared.lexeme.Terminal.TheVariants.{Name, Integer, Str, Word as ReservedWord, Mark as Punctuation}
use Rattle.fn_tree.specs.declared.lexeme.Word.TheVariants.{Query, True, False, Len, Has, Push, Set, Without, Slice, Range, Show, Get, Patch}
use Rattle.fn_tree.specs.declared.lexeme.Mark.TheVariants.{Equal, NotEqual, Less, LessEqual, Greater, Plus, Star, Slash, Percent, AndAnd, OrOr, Minus}
use Rattle.fn_tree.specs.declared.syntax.Named.{Named}
use Rattle.fn_tree.specs.declared.syntax.Kind.{Kind}
use Rattle.fn_tree.specs.declared.syntax.Kind.TheVariants.{Query as AQuery, Mutation as AMutation, Helper as AHelper}
use Rattle.fn_tree.specs.declared.syntax.CompareOp.{CompareOp}
use Rattle.fn_tree.specs.declared.syntax.CompareOp.TheVariants as compare
use Rattle.fn_tree.specs.declared.syntax.UnaryOp.{UnaryOp}
use Rattle.fn_tree.specs.declared.syntax.UnaryOp.TheVariants as sign
use Rattle.fn_tree.specs.declared.syntax.BinaryOp.{BinaryOp}
use Rattle.fn_tree.specs.declared.syntax.BinaryOp.TheVariants as operator
use Rattle.fn_tree.specs.declared.syntax.Builtin.{Builtin}
use Rattle.fn_tree.specs.declared.syntax.Builtin.TheVariants as function

-- ---- tokens

-- the token of a leaf
abbrev pub token_of : Parse → Lexeme
token_of (leaf c) = c
token_of a = record { terminal = Name; at = 0; len = 0 }

abbrev pub is_quoted : Terminal → Bool
is_quoted Str = true
is_quoted t = false

-- what a token of a kind and some bytes says
abbrev pub said_as : Terminal → List ℕ → List ℕ
said_as Str bs = text_of (string_value bs)
said_as t bs = text_of bs

-- what a name says, or a string
abbrev pub said : List ℕ → Lexeme → List ℕ
said s c = said_as c.terminal (slice_of s c)

-- a name or a string as a name
abbrev pub named_of : List ℕ → Lexeme → Named
named_of s c = record { at = c.at; text = said s c; quoted = is_quoted c.terminal }

abbrev pub compare_of : Terminal → CompareOp
compare_of (Punctuation Equal) = compare.Equal
compare_of (Punctuation NotEqual) = compare.NotEqual
compare_of (Punctuation Less) = compare.Less
compare_of (Punctuation LessEqual) = compare.LessEqual
compare_of (Punctuation Greater) = compare.Greater
compare_of t = compare.GreaterEqual

abbrev pub operator_of : Terminal → BinaryOp
operator_of (Punctuation OrOr) = operator.Or
operator_of (Punctuation AndAnd) = operator.And
operator_of (Punctuation Plus) = operator.Add
operator_of (Punctuation Minus) = operator.Subtract
operator_of (Punctuation Star) = operator.Multiply
operator_of (Punctuation Slash) = operator.Divide
operator_of (Punctuation Percent) = operator.Remainder
operator_of t = operator.Compare (compare_of t)

abbrev pub sign_of : Terminal → UnaryOp
sign_of (Punctuation Minus) = sign.Negate
sign_of t = sign.Not

abbrev pub builtin_of : Terminal → Builtin
builtin_of (ReservedWord Len) = function.Len
builtin_of (ReservedWord Has) = function.Has
builtin_of (ReservedWord Push) = function.Push
builtin_of (ReservedWord Set) = function.Set
builtin_of (ReservedWord Without) = function.Without
builtin_of (ReservedWord Slice) = function.Slice
builtin_of (ReservedWord Range) = function.Range
builtin_of (ReservedWord Show) = function.Show
builtin_of t = function.Keys

abbrev pub literal_as : Terminal → List ℕ → Form
literal_as Integer bs = integer (pos (number_of bs))
literal_as Str bs = string (text_of (string_value bs))
literal_as (ReservedWord True) bs = truth true
literal_as (ReservedWord False) bs = truth false
literal_as t bs = nothing

-- an integer, a string, true, false or null
abbrev pub literal_of : List ℕ → Lexeme → Expr
literal_of s c = expr c.at (literal_as c.terminal (slice_of s c))

-- `get` or `delete`
abbrev pub lookup_as : Terminal → Expr → Form
lookup_as (ReservedWord Get) e = get e
lookup_as t e = delete e

-- `patch` or `replace`
abbrev pub change_as : Terminal → Expr → Expr → Form
change_as (ReservedWord Patch) e f = patch e f
change_as t e f = replace e f

-- ---- lists

-- the turns of a part
abbrev pub turns_of : Parse → List Parse
turns_of (pair a more) = a ∷ turns_of more
turns_of a = []

-- a part with what stands before it
abbrev pub second : Parse → Parse
second (pair a b) = b
second a = a

-- the parts with commas between them
abbrev pub commas_of : Parse → List Parse
commas_of (pair a more) = a ∷ map second (turns_of more)
commas_of a = []

-- those, or none
abbrev pub maybe_commas_of : Parse → List Parse
maybe_commas_of (in_left a) = commas_of a
maybe_commas_of a = []

-- ---- expressions

abbrev pub at_of : Expr → ℕ
at_of (expr at f) = at

-- an operator between two operands; it begins where the first begins
abbrev pub joined : Expr → Lexeme → Expr → Expr
joined e c f = expr (at_of e) (binary (operator_of c.terminal) e f)

-- signs before an operand
abbrev pub signed : Parse → Expr → Expr
signed (pair a more) e = expr (token_of a).at (unary (sign_of (token_of a).terminal) (signed more e))
signed a e = e

abbrev pub is_there : Parse → Bool
is_there (in_left a) = true
is_there a = false

abbrev pub missing : Expr
missing = expr 0 nothing

abbrev pub count_of : List ℕ → Parse → Expr
count_of s (pair w (pair o (pair t close))) = expr (token_of w).at (count (named_of s (token_of t)))
count_of s a = missing

abbrev pub moment_of : Parse → Expr
moment_of (pair w a) = expr (token_of w).at now
moment_of a = missing

abbrev mutual
  pub expression_of : List ℕ → Parse → Expr
  expression_of s (pair a more) = ors_of s (conjunction_of s a) more
  expression_of s a = missing

  pub ors_of : List ℕ → Expr → Parse → Expr
  ors_of s e (pair (pair o a) more) = ors_of s (joined e (token_of o) (conjunction_of s a)) more
  ors_of s e a = e

  pub conjunction_of : List ℕ → Parse → Expr
  conjunction_of s (pair a more) = ands_of s (comparison_of s a) more
  conjunction_of s a = missing

  pub ands_of : List ℕ → Expr → Parse → Expr
  ands_of s e (pair (pair o a) more) = ands_of s (joined e (token_of o) (comparison_of s a)) more
  ands_of s e a = e

  pub comparison_of : List ℕ → Parse → Expr
  comparison_of s (pair a (in_left (pair o b))) = joined (sum_of s a) (token_of o) (sum_of s b)
  comparison_of s (pair a b) = sum_of s a
  comparison_of s a = missing

  pub sum_of : List ℕ → Parse → Expr
  sum_of s (pair a more) = addends_of s (term_of s a) more
  sum_of s a = missing

  pub addends_of : List ℕ → Expr → Parse → Expr
  addends_of s e (pair (pair o a) more) = addends_of s (joined e (token_of o) (term_of s a)) more
  addends_of s e a = e

  pub term_of : List ℕ → Parse → Expr
  term_of s (pair a more) = factors_of s (unary_of s a) more
  term_of s a = missing

  pub factors_of : List ℕ → Expr → Parse → Expr
  factors_of s e (pair (pair o a) more) = factors_of s (joined e (token_of o) (unary_of s a)) more
  factors_of s e a = e

  pub unary_of : List ℕ → Parse → Expr
  unary_of s (pair signs a) = signed signs (postfix_of s a)
  unary_of s a = missing

  pub postfix_of : List ℕ → Parse → Expr
  postfix_of s (pair a more) = suffixes_of s (primary_of s a) more
  postfix_of s a = missing

  pub suffixes_of : List ℕ → Expr → Parse → Expr
  suffixes_of s e (pair a more) = suffixes_of s (suffix_of s e a) more
  suffixes_of s e a = e

  -- a field by its name, or an item
  pub suffix_of : List ℕ → Expr → Parse → Expr
  suffix_of s e (in_left (pair d n)) = expr (at_of e) (field e (named_of s (token_of n)))
  suffix_of s e (in_right (pair o a)) = expr (at_of e) (item e (closed_of s a))
  suffix_of s e a = missing

  pub primary_of : List ℕ → Parse → Expr
  primary_of s (in_left a) = literal_of s (token_of a)
  primary_of s (in_right (in_left a)) = name_or_call_of s a
  primary_of s (in_right (in_right (in_left a))) = builtin_call_of s a
  primary_of s (in_right (in_right (in_right (in_left a)))) = array_of s a
  primary_of s (in_right (in_right (in_right (in_right (in_left a))))) = object_of s a
  primary_of s (in_right (in_right (in_right (in_right (in_right (in_left a)))))) = group_of s a
  primary_of s (in_right (in_right (in_right (in_right (in_right (in_right (in_left a))))))) = scan_of s a
  primary_of s (in_right (in_right (in_right (in_right (in_right (in_right (in_right (in_left a)))))))) = count_of s a
  primary_of s (in_right (in_right (in_right (in_right (in_right (in_right (in_right (in_right (in_left a))))))))) = lookup_of s a
  primary_of s (in_right (in_right (in_right (in_right (in_right (in_right (in_right (in_right (in_right (in_left a)))))))))) = moment_of a
  primary_of s (in_right (in_right (in_right (in_right (in_right (in_right (in_right (in_right (in_right (in_right (in_left a))))))))))) = insertion_of s a
  primary_of s (in_right (in_right (in_right (in_right (in_right (in_right (in_right (in_right (in_right (in_right (in_right a))))))))))) = change_of s a
  primary_of s a = missing

  pub name_or_call_of : List ℕ → Parse → Expr
  name_or_call_of s (pair n a) = expr (token_of n).at (variable_or_call_of s (said s (token_of n)) a)
  name_or_call_of s a = missing

  pub builtin_call_of : List ℕ → Parse → Expr
  builtin_call_of s (pair w (pair o (pair a close))) = expr (token_of w).at (builtin (builtin_of (token_of w).terminal) (exprs_of s a))
  builtin_call_of s a = missing

  pub array_of : List ℕ → Parse → Expr
  array_of s (pair o a) = expr (token_of o).at (items (closed_exprs_of s a))
  array_of s a = missing

  pub object_of : List ℕ → Parse → Expr
  object_of s (pair o a) = expr (token_of o).at (entries (closed_entries_of s a))
  object_of s a = missing

  pub group_of : List ℕ → Parse → Expr
  group_of s (pair o a) = expr (token_of o).at (group (closed_of s a))
  group_of s a = missing

  pub scan_of : List ℕ → Parse → Expr
  scan_of s (pair w (pair o (pair t (pair comma (pair i (pair bs (pair close (pair d l)))))))) = expr (token_of w).at (scan (named_of s (token_of t)) (named_of s (token_of i)) (bounds_of s bs) (is_there d) (limit_of s l))
  scan_of s a = missing

  pub lookup_of : List ℕ → Parse → Expr
  lookup_of s (pair w (pair o a)) = expr (token_of w).at (lookup_as (token_of w).terminal (closed_of s a))
  lookup_of s a = missing

  pub insertion_of : List ℕ → Parse → Expr
  insertion_of s (pair w (pair o (pair t (pair comma a)))) = expr (token_of w).at (insert (named_of s (token_of t)) (closed_of s a))
  insertion_of s a = missing

  pub change_of : List ℕ → Parse → Expr
  change_of s (pair w (pair o (pair a b))) = expr (token_of w).at (change_as (token_of w).terminal (closed_of s a) (closed_of s b))
  change_of s a = missing

  -- an expression and the mark that closes it, expressions and theirs, entries and theirs
  pub closed_of : List ℕ → Parse → Expr
  closed_of s (pair a close) = expression_of s a
  closed_of s a = missing

  pub closed_exprs_of : List ℕ → Parse → Exprs
  closed_exprs_of s (pair a close) = maybe_exprs_of s a
  closed_exprs_of s a = no_exprs

  pub closed_entries_of : List ℕ → Parse → Entries
  closed_entries_of s (pair a close) = maybe_entries_of s a
  closed_entries_of s a = no_entries

  -- a variable, or a call where arguments follow
  pub variable_or_call_of : List ℕ → List ℕ → Parse → Form
  variable_or_call_of s n (in_left (pair o a)) = call n (closed_exprs_of s a)
  variable_or_call_of s n a = variable n

  pub maybe_exprs_of : List ℕ → Parse → Exprs
  maybe_exprs_of s (in_left a) = exprs_of s a
  maybe_exprs_of s a = no_exprs

  pub exprs_of : List ℕ → Parse → Exprs
  exprs_of s (pair a more) = then_expr (expression_of s a) (more_exprs_of s more)
  exprs_of s a = no_exprs

  pub more_exprs_of : List ℕ → Parse → Exprs
  more_exprs_of s (pair (pair comma a) more) = then_expr (expression_of s a) (more_exprs_of s more)
  more_exprs_of s a = no_exprs

  pub maybe_entries_of : List ℕ → Parse → Entries
  maybe_entries_of s (in_left a) = entries_of s a
  maybe_entries_of s a = no_entries

  pub entries_of : List ℕ → Parse → Entries
  entries_of s (pair (pair n (pair colon a)) more) = entry (named_of s (token_of n)) (expression_of s a) (more_entries_of s more)
  entries_of s a = no_entries

  pub more_entries_of : List ℕ → Parse → Entries
  more_entries_of s (pair (pair comma (pair n (pair colon a))) more) = entry (named_of s (token_of n)) (expression_of s a) (more_entries_of s more)
  more_entries_of s a = no_entries

  pub bounds_of : List ℕ → Parse → Bounds
  bounds_of s (pair (pair comma (pair n (pair o a))) more) = bound (named_of s (token_of n)) (compare_of (token_of o).terminal) (expression_of s a) (bounds_of s more)
  bounds_of s a = no_bounds

  pub limit_of : List ℕ → Parse → Limit
  limit_of s (in_left (pair w (pair o a))) = up_to (closed_of s a)
  limit_of s a = all_rows

-- ---- statements

abbrev pub no_statement : Stmt
no_statement = stmt 0 (evaluate missing)

abbrev pub let_of : List ℕ → Parse → Stmt
let_of s (pair w (pair n (pair q a))) = stmt (token_of w).at (declare (named_of s (token_of n)) (closed_of s a))
let_of s a = no_statement

abbrev pub return_of : List ℕ → Parse → Stmt
return_of s (pair w a) = stmt (token_of w).at (give_back (closed_of s a))
return_of s a = no_statement

abbrev pub throw_of : List ℕ → Parse → Stmt
throw_of s (pair w a) = stmt (token_of w).at (throw (closed_of s a))
throw_of s a = no_statement

abbrev pub assignment_of : List ℕ → Parse → Stmt
assignment_of s (pair n (pair q a)) = stmt (token_of n).at (assign (named_of s (token_of n)) (closed_of s a))
assignment_of s a = no_statement

abbrev pub evaluation_of : List ℕ → Parse → Stmt
evaluation_of s a = stmt (at_of (closed_of s a)) (evaluate (closed_of s a))

abbrev mutual
  pub statements_of : List ℕ → Parse → Stmts
  statements_of s (pair a more) = then_stmt (statement_of s a) (statements_of s more)
  statements_of s a = no_stmts

  pub block_of : List ℕ → Parse → Stmts
  block_of s (pair o a) = closed_statements_of s a
  block_of s a = no_stmts

  -- statements and the brace that closes them
  pub closed_statements_of : List ℕ → Parse → Stmts
  closed_statements_of s (pair a close) = statements_of s a
  closed_statements_of s a = no_stmts

  pub else_of : List ℕ → Parse → Else
  else_of s (in_left (pair w a)) = or_else (block_of s a)
  else_of s a = no_else

  pub if_of : List ℕ → Parse → Stmt
  if_of s (pair w (pair o (pair a (pair b e)))) = stmt (token_of w).at (choose (closed_of s a) (block_of s b) (else_of s e))
  if_of s a = no_statement

  pub for_of : List ℕ → Parse → Stmt
  for_of s (pair w (pair o (pair n (pair i (pair a b))))) = stmt (token_of w).at (each (named_of s (token_of n)) (closed_of s a) (block_of s b))
  for_of s a = no_statement

  pub statement_of : List ℕ → Parse → Stmt
  statement_of s (in_left a) = let_of s a
  statement_of s (in_right (in_left a)) = if_of s a
  statement_of s (in_right (in_right (in_left a))) = for_of s a
  statement_of s (in_right (in_right (in_right (in_left a)))) = return_of s a
  statement_of s (in_right (in_right (in_right (in_right (in_left a))))) = throw_of s a
  statement_of s (in_right (in_right (in_right (in_right (in_right (in_left a)))))) = assignment_of s a
  statement_of s (in_right (in_right (in_right (in_right (in_right (in_right a)))))) = evaluation_of s a
  statement_of s a = no_statement

-- ---- declarations

abbrev pub kind_of : Terminal → Kind
kind_of (ReservedWord Query) = AQuery
kind_of t = AMutation

-- the further parts of a path, each behind a slash
abbrev pub parts_of : List ℕ → Parse → List ℕ
parts_of s (pair (pair slash n) more) = codes "/" ++ said s (token_of n) ++ parts_of s more
parts_of s a = []

-- a path as one text
abbrev pub path_of : List ℕ → Parse → List ℕ
path_of s (pair n (pair more (pair colon m))) = said s (token_of n) ++ parts_of s more ++ codes ":" ++ said s (token_of m)
path_of s a = []

abbrev pub path_at : Parse → ℕ
path_at (pair n a) = (token_of n).at
path_at a = 0

-- the names in brackets
abbrev pub parameters_of : List ℕ → Parse → List Named
parameters_of s (pair o (pair a close)) = map (λ n. named_of s (token_of n)) (maybe_commas_of a)
parameters_of s a = []

abbrev pub no_function : FunctionTree
no_function = record { kind = AHelper; udf = []; params = []; body = no_stmts; at = 0 }

-- a query or a mutation
abbrev pub entry_of : List ℕ → Parse → FunctionTree
entry_of s (pair k (pair p (pair ps b))) = record { kind = kind_of (token_of k).terminal; udf = path_of s p; params = parameters_of s ps; body = block_of s b; at = path_at p }
entry_of s a = no_function

abbrev pub helper_of : List ℕ → Parse → FunctionTree
helper_of s (pair k (pair n (pair ps b))) = record { kind = AHelper; udf = said s (token_of n); params = parameters_of s ps; body = block_of s b; at = (token_of n).at }
helper_of s a = no_function

abbrev pub function_of : List ℕ → Parse → FunctionTree
function_of s (in_left a) = entry_of s a
function_of s (in_right a) = helper_of s a
function_of s a = no_function

abbrev pub index_of : List ℕ → Parse → IndexTree
index_of s (pair w (pair n (pair o (pair fs a)))) = record { name = named_of s (token_of n); fields = map (λ f. named_of s (token_of f)) (commas_of fs) }
index_of s a = record { name = named_of s (token_of a); fields = [] }

abbrev pub table_of : List ℕ → Parse → TableTree
table_of s (pair w (pair n (pair o (pair is close)))) = record { name = named_of s (token_of n); indexes = map (index_of s) (turns_of is) }
table_of s a = record { name = named_of s (token_of a); indexes = [] }

abbrev pub module_of : List ℕ → Parse → ModuleTree
module_of s (pair ts fs) = record { tables = map (table_of s) (turns_of ts); functions = map (function_of s) (turns_of fs) }
module_of s a = record { tables = []; functions = [] }
