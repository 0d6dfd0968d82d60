-- The tokens, the trees and the canonical text of some texts, worked out.
use Rattle.std.specs.Prelude.{◌≡◌, ℕ, pos, true, false, nat_lt, List, [], ◌∷◌, ◌++◌, length, map, codes, Some, None}
use Rattle.fn_tree.specs.Canonical.{expr_text, stmt_text, canonical_text}
use Rattle.fn_tree.specs.Grammar.{Prod, seq, turns, rule, Bound, up_to, endless, Parse, Takes}
use Rattle.fn_tree.specs.Language.{grammar}
use Rattle.fn_tree.specs.Lexemes.{Lexed, lexemes_of}
use Rattle.fn_tree.specs.LexemeValues.{number_of, string_value}
use Rattle.fn_tree.specs.ModuleTexts.{IsModuleText, IsFaultOf, rank}
use Rattle.fn_tree.specs.Nesting.{first_deeper, first_too_deep}
use Rattle.fn_tree.specs.ParseTrees.{operator_of, builtin_of, expression_of, statement_of}
use Rattle.fn_tree.specs.Placeless.{placeless_expr, placeless_stmt, placeless}
use Rattle.fn_tree.specs.Rules.{Rule, statement, expression, conjunction, sum, term, unary, postfix}
use Rattle.fn_tree.specs.SyntaxTree.{Expr, expr, integer, string, truth, nothing, variable, call, builtin, items, entries, group, scan, count, get, now, insert, delete, patch, replace, field, item, unary as signed, binary, Exprs, no_exprs, then_expr, no_entries, entry, no_bounds, bound, all_rows, up_to as at_most, Stmt, stmt, declare, assign, evaluate, choose, each, give_back, throw, no_stmts, then_stmt, no_else, or_else, ModuleTree}
use Rattle.fn_tree.specs.Terminals.{is_field_name, is_part, is_bound_operator}
use Rattle.fn_tree.specs.declared.fault.Why.TheVariants.{TooLong, NotUtf8, BadToken, TooDeep, WrongToken, EarlyEnd}
use Rattle.fn_tree.specs.declared.lexeme.Lexeme.{Lexeme}
use Rattle.fn_tree.specs.declared.lexeme.Mark.TheVariants as mark
use Rattle.fn_tree.specs.declared.lexeme.Mark.TheVariants.{LessEqual}
use Rattle.fn_tree.specs.declared.lexeme.Terminal.{Terminal}
use Rattle.fn_tree.specs.declared.lexeme.Terminal.TheVariants.{Name, Integer, Str, Word as Reserved, Mark as Marked}
use Rattle.fn_tree.specs.declared.lexeme.Word.TheVariants as word
use Rattle.fn_tree.specs.declared.lexeme.Word.TheVariants.{Let}
use Rattle.fn_tree.specs.declared.syntax.BinaryOp.TheVariants.{Or, And, Compare, Add, Subtract, Multiply, Divide, Remainder}
use Rattle.fn_tree.specs.declared.syntax.Builtin.TheVariants.{Len, Has, Push, Set, Without, Slice, Range, Show, Keys}
use Rattle.fn_tree.specs.declared.syntax.CompareOp.TheVariants as compare
use Rattle.fn_tree.specs.declared.syntax.Kind.TheVariants.{Query, Mutation, Helper}
use Rattle.fn_tree.specs.declared.syntax.Named.{Named}
use Rattle.fn_tree.specs.declared.syntax.UnaryOp.TheVariants.{Negate, Not}

abbrev token : Terminal → ℕ → ℕ → Lexeme
token t at len = record { terminal = t; at = at; len = len }

abbrev whole : List Lexeme → Lexed
whole xs = record { lexemes = xs; bad = None }

abbrev bad_at : ℕ → List Lexeme → Lexed
bad_at at xs = record { lexemes = xs; bad = Some at }

-- numbers, strings, marks, comments, names and reserved words
abbrev pub AreWorkedLexemes : Type 0
AreWorkedLexemes =
    (lexemes_of (codes "0a") ≡ whole (token Integer 0 1 ∷ token Name 1 1 ∷ []))
    × (lexemes_of (codes "01") ≡ bad_at 0 [])
    × (lexemes_of (codes "9223372036854775807") ≡ whole (token Integer 0 19 ∷ []))
    × (lexemes_of (codes "a 9223372036854775808") ≡ bad_at 2 (token Name 0 1 ∷ []))
    × (lexemes_of (codes "\"a\\\"b\"") ≡ whole (token Str 0 6 ∷ []))
    × (string_value (codes "\"a\\\"b\"") ≡ codes "a\"b")
    × (lexemes_of (codes "x\"a\\") ≡ bad_at 1 (token Name 0 1 ∷ []))
    × (lexemes_of (codes "a<=b") ≡ whole (token Name 0 1 ∷ token (Marked LessEqual) 1 2 ∷ token Name 3 1 ∷ []))
    × (lexemes_of (codes "//x") ≡ whole [])
    × (lexemes_of (codes "let lets") ≡ whole (token (Reserved Let) 0 3 ∷ token Name 4 4 ∷ []))
    × (lexemes_of (codes "a#") ≡ bad_at 1 (token Name 0 1 ∷ []))
    × (number_of (codes "120") ≡ 120)
    × (lexemes_of (codes "<==/") ≡ whole (token (Marked LessEqual) 0 2 ∷ token (Marked mark.Assign) 2 1 ∷ token (Marked mark.Slash) 3 1 ∷ []))
    × (lexemes_of (codes "_A9$") ≡ bad_at 3 (token Name 0 3 ∷ []))

-- blanks are a tab, a line feed, a carriage return and a space; of these a line feed ends a comment
abbrev pub AreWorkedGaps : Type 0
AreWorkedGaps =
    (lexemes_of (9 ∷ 10 ∷ 13 ∷ 32 ∷ codes "a") ≡ whole (token Name 4 1 ∷ []))
    × (lexemes_of (12 ∷ codes "a") ≡ bad_at 0 [])
    × (lexemes_of (codes "//x" ++ 10 ∷ codes "a") ≡ whole (token Name 4 1 ∷ []))
    × (lexemes_of (codes "//x" ++ 13 ∷ codes "a") ≡ whole [])

-- a string has four escapes, and no byte below that of a space
abbrev pub AreWorkedStrings : Type 0
AreWorkedStrings =
    (string_value (codes "\"\\\"\\\\\\n\\t\"") ≡ 34 ∷ 92 ∷ 10 ∷ 9 ∷ [])
    × (lexemes_of (codes "\"\\\"\\\\\\n\\t\"") ≡ whole (token Str 0 10 ∷ []))
    × (lexemes_of (codes "\"\\r\"") ≡ bad_at 0 [])
    × (lexemes_of (codes "\"\\0\"") ≡ bad_at 0 [])
    × (lexemes_of (34 ∷ 32 ∷ 127 ∷ 34 ∷ []) ≡ whole (token Str 0 4 ∷ []))
    × (lexemes_of (34 ∷ 31 ∷ 34 ∷ []) ≡ bad_at 0 [])
    × (lexemes_of (34 ∷ 9 ∷ 34 ∷ []) ≡ bad_at 0 [])
    × (lexemes_of (34 ∷ 10 ∷ 34 ∷ []) ≡ bad_at 0 [])

abbrev thirty_two_open : List ℕ
thirty_two_open = codes "(([{([{[(([{([{[(([{([{[(([{([{["

-- ---- trees

-- all tokens of the text are of the production, and say this
abbrev Says : {A : Type 0} → Rule → (List ℕ → Parse → A) → (text : List ℕ) → A → Type 0
Says i says text tree = (a : Parse) × Takes grammar (rule i) a (lexemes_of text).lexemes [] × (says text a ≡ tree)

abbrev name_at : ℕ → List ℕ → Named
name_at at s = record { at = at; text = s; quoted = false }

abbrev quoted_at : ℕ → List ℕ → Named
quoted_at at s = record { at = at; text = s; quoted = true }

-- an integer, and the variables a, b and c
abbrev number_at : ℕ → ℕ → Expr
number_at at n = expr at (integer (pos n))

abbrev a_at : ℕ → Expr
a_at at = expr at (variable (codes "a"))

abbrev b_at : ℕ → Expr
b_at at = expr at (variable (codes "b"))

abbrev c_at : ℕ → Expr
c_at at = expr at (variable (codes "c"))

abbrev two : Expr → Expr → Exprs
two e f = then_expr e (then_expr f no_exprs)

-- a text says the expression, which is written the same without its places
abbrev Expressed : (text : List ℕ) → Expr → Type 0
Expressed text e = Says expression expression_of text e × (expr_text (placeless_expr e) ≡ expr_text e)

-- an expression has the place of its first token; operators of one level are taken from the left, and those of a later level hold closer
abbrev pub AreWorkedPlaces : Type 0
AreWorkedPlaces =
    Expressed (codes "false") (expr 0 (truth false))
    × Expressed (codes "a-b-1") (expr 0 (binary Subtract (expr 0 (binary Subtract (a_at 0) (b_at 2))) (number_at 4 1)))
    × Expressed (codes " a+b*2") (expr 1 (binary Add (a_at 1) (expr 3 (binary Multiply (b_at 3) (number_at 5 2)))))
    × Expressed (codes "a||b&&c<1") (expr 0 (binary Or (a_at 0) (expr 3 (binary And (b_at 3) (expr 6 (binary (Compare compare.Less) (c_at 6) (number_at 8 1)))))))
    × Expressed (codes "-!a.b[0]") (expr 0 (signed Negate (expr 1 (signed Not (expr 2 (item (expr 2 (field (a_at 2) (name_at 4 (codes "b")))) (number_at 6 0)))))))
    × Expressed (codes "(h(a,b))") (expr 0 (group (expr 1 (call (codes "h") (two (a_at 3) (b_at 5))))))
    × Expressed (codes "[a,len(b)]") (expr 0 (items (two (a_at 1) (expr 3 (builtin Len (then_expr (b_at 7) no_exprs))))))
    × Expressed (codes "{a:true,\"b c\":null}")
    (expr 0 (entries (entry (name_at 1 (codes "a")) (expr 3 (truth true)) (entry (quoted_at 8 (codes "b c")) (expr 14 nothing) no_entries))))

-- reads and writes
abbrev pub AreWorkedAccesses : Type 0
AreWorkedAccesses =
    Expressed (codes "scan(\"t\",\"i\",a==1,\"b\"<c)desc take(3)")
    (expr 0 (scan (quoted_at 5 (codes "t")) (quoted_at 9 (codes "i"))
    (bound (name_at 13 (codes "a")) compare.Equal (number_at 16 1) (bound (quoted_at 18 (codes "b")) compare.Less (c_at 22) no_bounds)) true (at_most (number_at 34 3))))
    × Expressed (codes "scan(\"t\",\"i\")") (expr 0 (scan (quoted_at 5 (codes "t")) (quoted_at 9 (codes "i")) no_bounds false all_rows))
    × Expressed (codes "count(\"t\")") (expr 0 (count (quoted_at 6 (codes "t"))))
    × Expressed (codes "get(a)") (expr 0 (get (a_at 4)))
    × Expressed (codes "now()") (expr 0 now)
    × Expressed (codes "insert(\"t\",a)") (expr 0 (insert (quoted_at 7 (codes "t")) (a_at 11)))
    × Expressed (codes "delete(a)") (expr 0 (delete (a_at 7)))
    × Expressed (codes "patch(a,b)") (expr 0 (patch (a_at 6) (b_at 8)))
    × Expressed (codes "replace(a,b)") (expr 0 (replace (a_at 8) (b_at 10)))

-- what each operator and each word of an operation stands for; what may name a field, be a part of a path, and stand in a bound
abbrev pub AreWorkedOperators : Type 0
AreWorkedOperators =
    (map (λ m. operator_of (Marked m)) (mark.OrOr ∷ mark.AndAnd ∷ mark.Equal ∷ mark.NotEqual ∷ mark.Less ∷ mark.LessEqual ∷ mark.Greater
    ∷ mark.GreaterEqual ∷ mark.Plus ∷ mark.Minus ∷ mark.Star ∷ mark.Slash ∷ mark.Percent ∷ [])
    ≡ Or ∷ And ∷ Compare compare.Equal ∷ Compare compare.NotEqual ∷ Compare compare.Less ∷ Compare compare.LessEqual ∷ Compare compare.Greater
    ∷ Compare compare.GreaterEqual ∷ Add ∷ Subtract ∷ Multiply ∷ Divide ∷ Remainder ∷ [])
    × (map (λ w. builtin_of (Reserved w)) (word.Len ∷ word.Has ∷ word.Push ∷ word.Set ∷ word.Without ∷ word.Slice ∷ word.Range ∷ word.Show ∷ word.Keys ∷ [])
    ≡ Len ∷ Has ∷ Push ∷ Set ∷ Without ∷ Slice ∷ Range ∷ Show ∷ Keys ∷ [])
    × (map is_field_name (Name ∷ Str ∷ Integer ∷ Reserved word.Get ∷ []) ≡ true ∷ true ∷ false ∷ false ∷ [])
    × (map is_part (Name ∷ Str ∷ Integer ∷ Reserved word.Get ∷ []) ≡ true ∷ false ∷ false ∷ true ∷ [])
    × (map (λ m. is_bound_operator (Marked m)) (mark.Equal ∷ mark.NotEqual ∷ mark.Less ∷ mark.LessEqual ∷ mark.Greater ∷ mark.GreaterEqual ∷ mark.Assign ∷ [])
    ≡ true ∷ false ∷ true ∷ true ∷ true ∷ true ∷ false ∷ [])

-- the same of a statement
abbrev Stated : (text : List ℕ) → Stmt → Type 0
Stated text s = Says statement statement_of text s × (stmt_text (placeless_stmt s) ≡ stmt_text s)

-- a statement has the place of its first token, which may be that of its expression
abbrev pub AreWorkedStatementTexts : Type 0
AreWorkedStatementTexts =
    Stated (codes "let b=a;") (stmt 0 (declare (name_at 4 (codes "b")) (a_at 6)))
    × Stated (codes " b=\"a\";") (stmt 1 (assign (name_at 1 (codes "b")) (expr 3 (string (codes "a")))))
    × Stated (codes " a;") (stmt 1 (evaluate (a_at 1)))
    × Stated (codes "if(a){b;}") (stmt 0 (choose (a_at 3) (then_stmt (stmt 6 (evaluate (b_at 6))) no_stmts) no_else))
    × Stated (codes "if(a){}else{return b;}") (stmt 0 (choose (a_at 3) no_stmts (or_else (then_stmt (stmt 12 (give_back (b_at 19))) no_stmts))))
    × Stated (codes " for(b in a){throw b;}") (stmt 1 (each (name_at 5 (codes "b")) (a_at 10) (then_stmt (stmt 13 (throw (b_at 19))) no_stmts)))

-- two tables, a helper, a mutation and a query; a function has the place of its name or of its path's first part
abbrev small : ModuleTree
small = record {
  tables = record {
    name = name_at 6 (codes "t");
    indexes = record { name = name_at 14 (codes "n"); fields = name_at 16 (codes "a") ∷ quoted_at 18 (codes "b c") ∷ [] }
        ∷ record { name = name_at 31 (codes "m"); fields = name_at 33 (codes "b") ∷ [] } ∷ [];
  } ∷ record { name = name_at 43 (codes "u"); indexes = [] } ∷ [];
  functions = record { kind = Helper; udf = codes "h"; params = name_at 55 (codes "a") ∷ name_at 57 (codes "b") ∷ []; body = no_stmts; at = 53 }
      ∷ record { kind = Mutation; udf = codes "x/get:y"; params = []; body = then_stmt (stmt 80 (evaluate (expr 80 (call (codes "h") (two (number_at 82 2) (number_at 84 3)))))) no_stmts; at = 70 }
      ∷ record { kind = Query; udf = codes "q:q"; params = name_at 98 (codes "a") ∷ []; body = then_stmt (stmt 101 (give_back (expr 107 (string (codes "a\"b"))))) no_stmts; at = 94 } ∷ [];
}

-- in the canonical text there is a blank between two tokens of one table or function, and a line feed behind the last one of each; places don't matter to it
abbrev pub AreWorkedModules : Type 0
AreWorkedModules =
    IsModuleText (codes "table t{index n(a,\"b c\");index m(b);}table u{}helper h(a,b){}mutation x/get:y(){h(2,3);}query q:q(a){return\"a\\\"b\";}") small
    × IsModuleText [] (record { tables = []; functions = [] })
    × (canonical_text small
    ≡ codes "table t { index n ( a , \"b c\" ) ; index m ( b ) ; }" ++ 10 ∷ codes "table u { }" ++ 10 ∷ codes "helper h ( a , b ) { }"
    ++ 10 ∷ codes "mutation x / get : y ( ) { h ( 2 , 3 ) ; }" ++ 10 ∷ codes "query q : q ( a ) { return \"a\\\"b\" ; }" ++ 10 ∷ [])
    × (canonical_text (record { tables = []; functions = [] }) ≡ [])
    × (canonical_text (placeless small) ≡ canonical_text small)

-- no module: a text too long, one that isn't UTF-8, one with a bad token, one that nests too deep
abbrev pub AreWorkedNoModules : Type 0
AreWorkedNoModules =
    ((text : List ℕ) (m : ModuleTree) → length text ≡ 1048577 → IsModuleText text m → ⊥)
    × ((m : ModuleTree) → IsModuleText (codes "//" ++ 255 ∷ []) m → ⊥)
    × ((m : ModuleTree) → IsModuleText (codes "#") m → ⊥)
    × ((m : ModuleTree) → IsModuleText (thirty_two_open ++ codes "[") m → ⊥)

-- how many turns the repetition of a production may have
abbrev most_turns : Prod → Bound
most_turns (turns n p) = n
most_turns (seq (turns n p) q) = n
most_turns (seq p (turns n q)) = n
most_turns p = endless

-- at most 16 operators of one level stand one after another, and as many signs, fields and items
abbrev pub AreWorkedTurns : Type 0
AreWorkedTurns =
    map (λ i. most_turns (grammar i)) (expression ∷ conjunction ∷ sum ∷ term ∷ unary ∷ postfix ∷ [])
    ≡ up_to 16 ∷ up_to 16 ∷ up_to 16 ∷ up_to 16 ∷ up_to 16 ∷ up_to 16 ∷ []

-- a text may have 1,048,576 bytes; bytes that are no UTF-8 are told before the tokens; of the faults of tokens at one place, bad ones come first, then deep, wrong and early ends
abbrev pub AreWorkedFaults : Type 0
AreWorkedFaults =
    ((text : List ℕ) → length text ≡ 1048577 → IsFaultOf text (record { why = TooLong; at = 1048576 }))
    × ((text : List ℕ) → length text ≡ 1048576 → IsFaultOf text (record { why = TooLong; at = 1048576 }) → ⊥)
    × IsFaultOf (codes "#" ++ 255 ∷ []) (record { why = NotUtf8; at = 1 })
    × IsFaultOf (codes "#") (record { why = BadToken; at = 0 })
    × (nat_lt (rank BadToken) (rank TooDeep) ≡ true)
    × (nat_lt (rank TooDeep) (rank WrongToken) ≡ true)
    × (nat_lt (rank WrongToken) (rank EarlyEnd) ≡ true)

abbrev pub IsWorkedTokens : Type 0
IsWorkedTokens = AreWorkedLexemes × AreWorkedGaps × AreWorkedStrings × AreWorkedPlaces × AreWorkedAccesses × AreWorkedOperators × AreWorkedStatementTexts × AreWorkedModules × AreWorkedNoModules × AreWorkedTurns × AreWorkedFaults

-- a bracket inside one, and brackets one after another, of each kind; a bracket that closes none counts for nothing; the bracket inside 32 is too deep
abbrev pub IsWorkedNesting : Type 0
IsWorkedNesting =
    (first_deeper 1 0 (lexemes_of (codes "()({")).lexemes ≡ Some 3)
    × (first_deeper 1 0 (lexemes_of (codes "([")).lexemes ≡ Some 1)
    × (first_deeper 1 0 (lexemes_of (codes "[{")).lexemes ≡ Some 1)
    × (first_deeper 1 0 (lexemes_of (codes "{(")).lexemes ≡ Some 1)
    × (first_deeper 1 0 (lexemes_of (codes "())()")).lexemes ≡ None)
    × (first_deeper 1 0 (lexemes_of (codes "()[]{}(")).lexemes ≡ None)
    × (first_deeper 1 0 (lexemes_of (codes ")]}((")).lexemes ≡ Some 4)
    × (first_too_deep (lexemes_of thirty_two_open).lexemes ≡ None)
    × (first_too_deep (lexemes_of (thirty_two_open ++ codes "[")).lexemes ≡ Some 32)
