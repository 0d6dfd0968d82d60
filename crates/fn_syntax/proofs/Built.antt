-- What turns say, item by item, and what was built of them so far.
use Rattle.std.proofs.Common.{◌≡◌, ◌∙◌, ℕ, List, [], ◌∷◌, ◌++◌, map, refl, sym, ap, append_assoc, append-nil, codes, Vec, Option}
use Rattle.std.specs.declared.alloc.Global.{Global}
use Rattle.std.proofs.lemmas.List.{map-append}
use Rattle.fn_tree.specs.Grammar.{Parse, leaf, none, pair, in_left, in_right}
use Rattle.fn_tree.specs.ParseTrees.{turns_of, second, said, token_of, named_of, parts_of, path_of, path_at, parameters_of, kind_of, index_of, table_of, entry_of, helper_of, closed_of, block_of, closed_statements_of, statements_of, statement_of, if_of, for_of, else_of, assignment_of, evaluation_of}
use Rattle.fn_tree.specs.SyntaxTree as plain
use Rattle.fn_tree.specs.SyntaxViews.{stmts_of, stmt_view, act_view, else_view, expr_view, index_view, table_view, function_view}
use Rattle.fn_tree.specs.declared.lexeme.Lexeme.{Lexeme}
use Rattle.fn_tree.specs.declared.syntax.Named.{Named}
use Rattle.fn_tree.specs.declared.syntax.Expr.{Expr}
use Rattle.fn_tree.specs.declared.syntax.Stmt.{Stmt}
use Rattle.fn_tree.specs.declared.syntax.StmtForm.TheVariants as act
use Rattle.fn_tree.specs.declared.syntax.IndexDecl.{IndexDecl}
use Rattle.fn_tree.specs.declared.syntax.TableDecl.{TableDecl}
use Rattle.fn_tree.specs.declared.syntax.Function.{Function}
use Rattle.fn_tree.specs.declared.syntax.Kind.TheVariants as Kind
use Rattle.fn_tree.proofs.FormViews.{act-Assign, act-Eval, act-If, act-For, view_at}
use Rattle.fn_syntax.specs.Means.{names_of}

-- the items that a parse says are those so far and those of the rest
abbrev pub Says : {U : Type 0} → (Parse → U) → List U → List U → (Parse → Parse) → Type 0
Says mean from so_far make = (a : Parse) → from ++ map mean (turns_of (make a)) ≡ so_far ++ map mean (turns_of a)

pub says_none : {U : Type 0} (mean : Parse → U) (from : List U) → Says mean from from (λ a. a)
says_none mean from a = refl

pub says_more : {U : Type 0} (mean : Parse → U) (from so_far : List U) (make : Parse → Parse) (b : Parse) (u : U) → Says mean from so_far make → u ≡ mean b → Says mean from (so_far ++ u ∷ []) (λ a. make (pair b a))
says_more mean from so_far make b u h e a = rw (append_assoc, e) (h (pair b a))

pub says_all : {U : Type 0} (mean : Parse → U) (from so_far : List U) (make : Parse → Parse) → Says mean from so_far make → from ++ map mean (turns_of (make none)) ≡ so_far
says_all mean from so_far make h = h none ∙ append-nil so_far

-- the same of a view of the items
pub views_more : {T U : Type 0} (view : T → U) (mean : Parse → U) (items : List T) (make : Parse → Parse) (b : Parse) (t : T) → Says mean [] (map view items) make → view t ≡ mean b → Says mean [] (map view (items ++ t ∷ [])) (λ a. make (pair b a))
views_more view mean items make b t h e = rw map-append (says_more mean [] (map view items) make b (view t) h e)

-- what stands behind commas
pub map_second : {U : Type 0} (mean : Parse → U) (parses : List Parse) → map mean (map second parses) ≡ map (λ a. mean (second a)) parses
map_second mean [] = refl
map_second mean (a ∷ parses) = rw (map_second mean parses) refl

-- the parts of a path so far
abbrev pub SaysParts : List ℕ → List ℕ → List ℕ → (Parse → Parse) → Type 0
SaysParts s from so_far make = (a : Parse) → from ++ parts_of s (make a) ≡ so_far ++ parts_of s a

-- statements as a list
pub statements_list : (s : List ℕ) (a : Parse) → statements_of s a ≡ stmts_of (map (statement_of s) (turns_of a))
statements_list s (leaf c) = refl
statements_list s none = refl
statements_list s (pair a b) = rw (statements_list s b) refl
statements_list s (in_left a) = refl
statements_list s (in_right a) = refl

regrouped : (a b d e : List ℕ) → a ++ ((b ++ d) ++ e) ≡ ((a ++ b) ++ d) ++ e
regrouped a b d e = simp append_assoc

-- a further part of a path
pub parts_more : (s from so_far path : List ℕ) (make : Parse → Parse) (b d : Parse) (part : Lexeme) → SaysParts s from so_far make → path ≡ so_far ++ codes "/" ++ said s part → part ≡ token_of d → SaysParts s from path (λ a. make (pair (pair b d) a))
parts_more s from so_far path make b d part h e k a = rw (e, k) (h (pair (pair b d) a) ∙ regrouped so_far (codes "/") (said s (token_of d)) (parts_of s a))

-- a whole path
pub path_said : (s t whole parts front start : List ℕ) (p m q l : Parse) (head last : Lexeme) → t ≡ whole → whole ≡ parts ++ codes ":" ++ said s last → parts ≡ front ++ parts_of s m → front ≡ start ++ codes "" ++ said s head → start ≡ [] → head ≡ token_of p → last ≡ token_of l → t ≡ path_of s (pair p (pair m (pair q l)))
path_said s t whole parts front start p m q l head last e0 e1 e2 e3 e4 e5 e6 = rw (e0, e1, e2, e3, e4, e5, e6) (simp append_assoc)

-- names with commas between them
pub names_said : (s : List ℕ) (head : Named) (start begun names items : List Named) (p m : Parse) → items ≡ names → start ≡ [] → begun ≡ start ++ head ∷ [] → head ≡ named_of s (token_of p) → begun ++ map (λ a. named_of s (token_of (second a))) (turns_of m) ≡ names → items ≡ names_of s (pair p m)
names_said s head start begun names items p m e j k h l = e ∙ rw (map_second (λ a. named_of s (token_of a)) (turns_of m), ← h) (rw (k, j) at (sym l))

-- an index with its fields
pub index_said : (s : List ℕ) (i : IndexDecl) (w n o fs a : Parse) → i.name ≡ named_of s (token_of n) → i.fields.items ≡ names_of s fs → index_view i ≡ index_of s (pair w (pair n (pair o (pair fs a))))
index_said s i w n o fs a h k = rw (h, k) refl

-- a table with its indexes
pub table_said : (s : List ℕ) (t : TableDecl) (w n o is a : Parse) → t.name ≡ named_of s (token_of n) → map index_view t.indexes.items ≡ map (index_of s) (turns_of is) → table_view t ≡ table_of s (pair w (pair n (pair o (pair is a))))
table_said s t w n o is a h k = rw (h, k) refl

-- statements with the brace that closes them
pub statements_said : (s : List ℕ) (body items : List Stmt) (m close : Parse) → items ≡ body → map (statement_of s) (turns_of m) ≡ map stmt_view body → stmts_of (map stmt_view items) ≡ closed_statements_of s (pair m close)
statements_said s body items m close e h = rw (e, statements_list s m, h) refl

-- a new value of a variable
pub assignment_said : (s : List ℕ) (n : Named) (e : Expr) (a q x : Parse) → n ≡ named_of s (token_of a) → expr_view e ≡ closed_of s x → plain.stmt n.at (act_view (act.Assign n e)) ≡ assignment_of s (pair a (pair q x))
assignment_said s n e a q x h k = rw (act-Assign, h, k) refl

-- an expression alone
pub evaluation_said : (s : List ℕ) (e : Expr) (x : Parse) → expr_view e ≡ closed_of s x → plain.stmt e.at (act_view (act.Eval e)) ≡ evaluation_of s x
evaluation_said s e x k = rw (act-Eval, ← k) (ap (λ (at : ℕ). plain.stmt at (plain.evaluate (expr_view e))) (sym (view_at e)))

-- a query or a mutation
pub entry_said : (s : List ℕ) (f : Function) (word : Lexeme) (w p ps b : Parse) → f.kind ≡ kind_of word.terminal → word ≡ token_of w → f.udf ≡ path_of s p → f.at ≡ path_at p → f.params.items ≡ parameters_of s ps → stmts_of (map stmt_view f.body.items) ≡ block_of s b → function_view f ≡ entry_of s (pair w (pair p (pair ps b)))
entry_said s f word w p ps b e0 e1 e2 e3 e4 e5 = rw (e0, e1, e2, e3, e4, e5) refl

-- a helper
pub helper_said : (s : List ℕ) (f : Function) (name : Named) (w n ps b : Parse) → f.kind ≡ Kind.Helper → name ≡ named_of s (token_of n) → f.udf ≡ name.text → f.at ≡ name.at → f.params.items ≡ parameters_of s ps → stmts_of (map stmt_view f.body.items) ≡ block_of s b → function_view f ≡ helper_of s (pair w (pair n (pair ps b)))
helper_said s f name w n ps b e0 e1 e2 e3 e4 e5 = rw (e0, e2, e3, e1, e4, e5) refl

-- a block for each item
pub for_said : (s : List ℕ) (word : Lexeme) (n : Named) (e : Expr) (body : Vec Stmt Global) (w o p i x b : Parse) → word ≡ token_of w → n ≡ named_of s (token_of p) → expr_view e ≡ closed_of s x → stmts_of (map stmt_view body.items) ≡ block_of s b → plain.stmt word.at (act_view (act.For n e body)) ≡ for_of s (pair w (pair o (pair p (pair i (pair x b)))))
for_said s word n e body w o p i x b hw h k m = rw (act-For, hw, h, k, m) refl

-- a choice
pub if_said : (s : List ℕ) (word : Lexeme) (e : Expr) (body : Vec Stmt Global) (others : Option (Vec Stmt Global)) (w o x b l : Parse) → word ≡ token_of w → expr_view e ≡ closed_of s x → stmts_of (map stmt_view body.items) ≡ block_of s b → else_view others ≡ else_of s l → plain.stmt word.at (act_view (act.If e body others)) ≡ if_of s (pair w (pair o (pair x (pair b l))))
if_said s word e body others w o x b l hw k m n = rw (act-If, hw, k, m, n) refl
