-- Parses of tokens that are the same say the same module, up to places.
use Rattle.std.proofs.Common.{◌≡◌, ℕ, List, ◌∷◌, ◌++◌, Bool, map, refl, ap}
use Rattle.std.specs.Prelude.{codes}
use Rattle.fn_tree.specs.Grammar.{Parse, Takes, Bound, token, seq, turns, rule, opt}
use Rattle.fn_tree.specs.Grammar.Takes.{one, nothing, both, left, right, stop, turn, call}
use Rattle.fn_tree.specs.Language.{grammar, mark, word, commas}
use Rattle.fn_tree.specs.ParseTrees.{token_of, named_of, second, turns_of, commas_of, kind_of, parts_of, path_of, parameters_of, function_of, index_of, table_of, module_of, statement_of, statements_of, block_of, else_of}
use Rattle.fn_tree.specs.Placeless.{placeless_name, placeless_stmt, placeless_stmts, placeless_else, placeless_index, placeless_table, placeless_function, placeless}
use Rattle.fn_tree.specs.Rules as rules
use Rattle.fn_tree.specs.SyntaxTree as plain
use Rattle.fn_tree.specs.SyntaxTree.{Stmts, then_stmt, FunctionTree, IndexTree, TableTree, ModuleTree}
use Rattle.fn_tree.specs.Terminals.{is_part}
use Rattle.fn_tree.specs.declared.lexeme.Lexeme.{Lexeme}
use Rattle.fn_tree.specs.declared.lexeme.Mark.TheVariants.{Comma, Slash}
use Rattle.fn_tree.specs.declared.lexeme.Terminal.{Terminal}
use Rattle.fn_tree.specs.declared.lexeme.Word.TheVariants.{Else}
use Rattle.fn_tree.specs.declared.syntax.Kind.{Kind}
use Rattle.fn_tree.specs.declared.syntax.Named.{Named}
use Rattle.fn_tree.proofs.Alike.{Alike}
use Rattle.fn_tree.proofs.Alike.Alike.{leaves, nones, pairs, lefts, rights}
use Rattle.fn_tree.proofs.SameTrees.{cong2, cong3, cong4, same_name, same_expression}

abbrev an_index : Named → List Named → IndexTree
an_index n fs = record { name = n; fields = fs }

abbrev a_table : Named → List IndexTree → TableTree
a_table n is = record { name = n; indexes = is }

abbrev a_function : Kind → List ℕ → List Named → Stmts → FunctionTree
a_function k u ps b = record { kind = k; udf = u; params = ps; body = b; at = 0 }

abbrev a_module : List TableTree → List FunctionTree → ModuleTree
a_module ts fs = record { tables = ts; functions = fs }

module _ (s z : List ℕ) where
  mutual
    statement : {a q : Parse} {ts r : List Lexeme} → Takes grammar (rule rules.statement) a ts r → Alike s z a q → placeless_stmt (statement_of s a) ≡ placeless_stmt (statement_of z q)
    statement (call (left (call (both (one g) (both (one h) (both (one i) (both t (one j)))))))) (lefts (pairs (leaves w') (pairs (leaves n') (pairs (leaves o') (pairs t' (leaves e')))))) =
        cong2 (λ x y. plain.stmt 0 (plain.declare x y)) (same_name n') (same_expression s z t t')
    statement (call (right (left (call (both (one g) (both (one h) (both (both t (one i)) (both b l)))))))) (rights (lefts (pairs (leaves w') (pairs (leaves o') (pairs (pairs t' (leaves e')) (pairs b' l')))))) =
        cong3 (λ x y o. plain.stmt 0 (plain.choose x y o)) (same_expression s z t t') (block b b') (otherwise l l')
    statement (call (right (right (left (call (both (one g) (both (one h) (both (one i) (both (one j) (both (both t (one k)) b)))))))))) (rights (rights (lefts (pairs (leaves w') (pairs (leaves o') (pairs (leaves n') (pairs (leaves i') (pairs (pairs t' (leaves e')) b')))))))) =
        cong3 (λ n x y. plain.stmt 0 (plain.each n x y)) (same_name n') (same_expression s z t t') (block b b')
    statement (call (right (right (right (left (call (both (one g) (both t (one h))))))))) (rights (rights (rights (lefts (pairs (leaves w') (pairs t' (leaves e'))))))) =
        ap (λ x. plain.stmt 0 (plain.give_back x)) (same_expression s z t t')
    statement (call (right (right (right (right (left (call (both (one g) (both t (one h)))))))))) (rights (rights (rights (rights (lefts (pairs (leaves w') (pairs t' (leaves e')))))))) =
        ap (λ x. plain.stmt 0 (plain.throw x)) (same_expression s z t t')
    statement (call (right (right (right (right (right (left (call (both (one g) (both (one h) (both t (one i)))))))))))) (rights (rights (rights (rights (rights (lefts (pairs (leaves n') (pairs (leaves o') (pairs t' (leaves e')))))))))) =
        cong2 (λ x y. plain.stmt 0 (plain.assign x y)) (same_name n') (same_expression s z t t')
    statement (call (right (right (right (right (right (right (call (both t (one g)))))))))) (rights (rights (rights (rights (rights (rights (pairs t' (leaves e')))))))) =
        ap (λ x. plain.stmt 0 (plain.evaluate x)) (same_expression s z t t')

    statements : {n : Bound} {a q : Parse} {ts r : List Lexeme} → Takes grammar (turns n (rule rules.statement)) a ts r → Alike s z a q → placeless_stmts (statements_of s a) ≡ placeless_stmts (statements_of z q)
    statements stop nones = refl
    statements (turn l t u) (pairs t' u') = cong2 then_stmt (statement t t') (statements u u')

    block : {a q : Parse} {ts r : List Lexeme} → Takes grammar (rule rules.block) a ts r → Alike s z a q → placeless_stmts (block_of s a) ≡ placeless_stmts (block_of z q)
    block (call (both (one g) (both t (one h)))) (pairs (leaves o') (pairs t' (leaves e'))) = statements t t'

    otherwise : {a q : Parse} {ts r : List Lexeme} → Takes grammar (opt (seq (word Else) (rule rules.block))) a ts r → Alike s z a q → placeless_else (else_of s a) ≡ placeless_else (else_of z q)
    otherwise (left (both (one g) t)) (lefts (pairs (leaves w') t')) = ap plain.or_else (block t t')
    otherwise (right nothing) (rights nones) = refl

  more_names : (f : Terminal → Bool) {n : Bound} {a q : Parse} {ts r : List Lexeme} → Takes grammar (turns n (seq (mark Comma) (token f))) a ts r → Alike s z a q
      → map placeless_name (map (λ n. named_of s (token_of n)) (map second (turns_of a))) ≡ map placeless_name (map (λ n. named_of z (token_of n)) (map second (turns_of q)))
  more_names f stop nones = refl
  more_names f (turn l (both (one g) (one h)) u) (pairs (pairs (leaves m') (leaves n')) u') = cong2 (λ (x : Named) (xs : List Named). x ∷ xs) (same_name n') (more_names f u u')

  names : (f : Terminal → Bool) {a q : Parse} {ts r : List Lexeme} → Takes grammar (commas (token f)) a ts r → Alike s z a q
      → map placeless_name (map (λ n. named_of s (token_of n)) (commas_of a)) ≡ map placeless_name (map (λ n. named_of z (token_of n)) (commas_of q))
  names f (both (one g) u) (pairs (leaves n') u') = cong2 (λ (x : Named) (xs : List Named). x ∷ xs) (same_name n') (more_names f u u')

  parameters : {a q : Parse} {ts r : List Lexeme} → Takes grammar (rule rules.parameters) a ts r → Alike s z a q → map placeless_name (parameters_of s a) ≡ map placeless_name (parameters_of z q)
  parameters (call (both (one g) (both (left t) (one h)))) (pairs (leaves o') (pairs (lefts t') (leaves e'))) = names _ t t'
  parameters (call (both (one g) (both (right nothing) (one h)))) (pairs (leaves o') (pairs (rights nones) (leaves e'))) = refl

  parts : {n : Bound} {a q : Parse} {ts r : List Lexeme} → Takes grammar (turns n (seq (mark Slash) (token is_part))) a ts r → Alike s z a q → parts_of s a ≡ parts_of z q
  parts stop nones = refl
  parts (turn l (both (one g) (one h)) u) (pairs (pairs (leaves m') (leaves n')) u') = cong2 (λ (x y : List ℕ). codes "/" ++ x ++ y) n'.text (parts u u')

  path : {a q : Parse} {ts r : List Lexeme} → Takes grammar (rule rules.path) a ts r → Alike s z a q → path_of s a ≡ path_of z q
  path (call (both (one g) (both t (both (one h) (one i))))) (pairs (leaves n') (pairs t' (pairs (leaves m') (leaves k')))) = cong3 (λ (x y w : List ℕ). x ++ y ++ codes ":" ++ w) n'.text (parts t t') k'.text

  index : {a q : Parse} {ts r : List Lexeme} → Takes grammar (rule rules.index) a ts r → Alike s z a q → placeless_index (index_of s a) ≡ placeless_index (index_of z q)
  index (call (both (one g) (both (one h) (both (one i) (both t (both (one j) (one k))))))) (pairs (leaves w') (pairs (leaves n') (pairs (leaves o') (pairs t' (pairs (leaves e') (leaves m')))))) =
      cong2 an_index (same_name n') (names _ t t')

  indexes : {n : Bound} {a q : Parse} {ts r : List Lexeme} → Takes grammar (turns n (rule rules.index)) a ts r → Alike s z a q → map placeless_index (map (index_of s) (turns_of a)) ≡ map placeless_index (map (index_of z) (turns_of q))
  indexes stop nones = refl
  indexes (turn l t u) (pairs t' u') = cong2 (λ (x : IndexTree) (xs : List IndexTree). x ∷ xs) (index t t') (indexes u u')

  table : {a q : Parse} {ts r : List Lexeme} → Takes grammar (rule rules.table) a ts r → Alike s z a q → placeless_table (table_of s a) ≡ placeless_table (table_of z q)
  table (call (both (one g) (both (one h) (both (one i) (both t (one j)))))) (pairs (leaves w') (pairs (leaves n') (pairs (leaves o') (pairs t' (leaves e'))))) = cong2 a_table (same_name n') (indexes t t')

  function : {a q : Parse} {ts r : List Lexeme} → Takes grammar (rule rules.function) a ts r → Alike s z a q → placeless_function (function_of s a) ≡ placeless_function (function_of z q)
  function (call (left (both (one g) (both p (both ps b))))) (lefts (pairs (leaves w') (pairs p' (pairs ps' b')))) = cong4 a_function (ap kind_of w'.terminal) (path p p') (parameters ps ps') (block b b')
  function (call (right (both (one g) (both (one h) (both ps b))))) (rights (pairs (leaves w') (pairs (leaves n') (pairs ps' b')))) = cong3 (a_function _) n'.text (parameters ps ps') (block b b')

  tables : {n : Bound} {a q : Parse} {ts r : List Lexeme} → Takes grammar (turns n (rule rules.table)) a ts r → Alike s z a q → map placeless_table (map (table_of s) (turns_of a)) ≡ map placeless_table (map (table_of z) (turns_of q))
  tables stop nones = refl
  tables (turn l t u) (pairs t' u') = cong2 (λ (x : TableTree) (xs : List TableTree). x ∷ xs) (table t t') (tables u u')

  functions : {n : Bound} {a q : Parse} {ts r : List Lexeme} → Takes grammar (turns n (rule rules.function)) a ts r → Alike s z a q → map placeless_function (map (function_of s) (turns_of a)) ≡ map placeless_function (map (function_of z) (turns_of q))
  functions stop nones = refl
  functions (turn l t u) (pairs t' u') = cong2 (λ (x : FunctionTree) (xs : List FunctionTree). x ∷ xs) (function t t') (functions u u')

  -- modules of alike parses
  pub same_module : {a q : Parse} {ts r : List Lexeme} → Takes grammar (rule rules.whole_module) a ts r → Alike s z a q → placeless (module_of s a) ≡ placeless (module_of z q)
  same_module (call (both t u)) (pairs t' u') = cong2 a_module (tables t t') (functions u u')
