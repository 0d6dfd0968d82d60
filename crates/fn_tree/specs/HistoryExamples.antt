-- A history, worked out: its entries are the runs of their calls, and the documents and answers at each timestamp.
use Rattle.std.specs.Prelude.{◌≡◌, ℕ, ◌*◌, pos, List, [], ◌∷◌, Some, None, codes}
use Rattle.cv_values.specs.Value.{Value, null, string}
use Rattle.cv_values.specs.declared.doc.Doc.{Doc}
use Rattle.cv_keys.specs.declared.write.Write.{Write}
use Rattle.fn_tree.specs.Course.{Reply, gives, failed}
use Rattle.fn_tree.specs.Documents.{doc_of}
use Rattle.fn_tree.specs.ExampleDocuments.{id_of, text_of_id, numbered, count_t, get_x}
use Rattle.fn_tree.specs.ExampleModules.{named, number, words, object_at, member_of, function, example, x, with_x, natural}
use Rattle.fn_tree.specs.History.{Entry, History, docs_at, IsLegal, answer_at}
use Rattle.fn_tree.specs.SyntaxTree.{expr, insert, delete, patch, Act, evaluate, give_back, throw, FunctionTree, ModuleTree}
use Rattle.fn_tree.specs.declared.syntax.Kind.TheVariants.{Query, Mutation}

-- insert("t", {v: x});
abbrev inserts_x : Act
inserts_x = evaluate (expr 0 (insert (named (codes "t")) (object_at (codes "v") x)))

abbrev mutation : List ℕ → List Act → FunctionTree
mutation udf acts = function Mutation udf (codes "x" ∷ []) acts

-- add inserts a number, no gives up behind that, size counts, raise sets the number of a document to 9, drop deletes one, and swap deletes one and inserts another
abbrev program : ModuleTree
program = example (
    mutation (codes "add") (inserts_x ∷ give_back x ∷ [])
    ∷ mutation (codes "no") (inserts_x ∷ throw (words (codes "no")) ∷ [])
    ∷ mutation (codes "size") (give_back count_t ∷ [])
    ∷ mutation (codes "raise") (evaluate (expr 0 (patch x (object_at (codes "v") (number 9)))) ∷ [])
    ∷ mutation (codes "drop") (evaluate (expr 0 (delete x)) ∷ [])
    ∷ mutation (codes "swap") (evaluate (expr 0 (delete x)) ∷ evaluate (expr 0 (insert (named (codes "t")) (object_at (codes "v") (number 8)))) ∷ [])
    ∷ function Query (codes "size") [] (give_back count_t ∷ [])
    ∷ function Query (codes "number") (codes "x" ∷ []) (give_back (member_of get_x (codes "v")) ∷ []) ∷ [])

-- the entry of a call by session 1, made at ten times the number of its request
abbrev logged : (request : ℕ) → (udf : List ℕ) → Value → Reply → List Write → Entry
logged request udf v reply writes = record {
  call = record { session = 1; request = request; udf = udf; args = with_x v; now = pos (10 * request) };
  reply = reply;
  writes = writes;
}

-- the documents of 1 and 2, and of 1 with another number
abbrev first : Doc
first = numbered 1 10

abbrev second : Doc
second = numbered 2 20

abbrev raised : Doc
raised = record { id = id_of 1 0; creation = pos 10; fields = (codes "v", natural 9) ∷ [] }

-- the entry that inserts the first, and one that counts
abbrev added : Entry
added = logged 1 (codes "add") (natural 1) (gives (natural 1)) (record { id = id_of 1 0; old = None; new = Some first } ∷ [])

abbrev sized : (request n : ℕ) → Entry
sized request n = logged request (codes "size") null (gives (natural n)) []

-- the same by another session
abbrev of_session : ℕ → Entry → Entry
of_session session e = record e { call = record e.call { session = session } }

abbrev log : History
log =
    added
    ∷ logged 2 (codes "add") (natural 2) (gives (natural 2)) (record { id = id_of 2 0; old = None; new = Some second } ∷ [])
    ∷ logged 3 (codes "no") (natural 3) (failed (codes "Thrown: no")) []
    ∷ sized 4 2
    ∷ logged 5 (codes "raise") (string (text_of_id 1 0)) (gives null) (record { id = id_of 1 0; old = Some first; new = Some raised } ∷ [])
    ∷ logged 6 (codes "drop") (string (text_of_id 2 0)) (gives null) (record { id = id_of 2 0; old = Some second; new = None } ∷ [])
    ∷ logged 7 (codes "raise") (string (text_of_id 2 0)) (failed (codes "NoDocument")) []
    ∷ logged 8 (codes "swap") (string (text_of_id 1 0)) (gives null)
    (record { id = id_of 1 0; old = Some raised; new = None } ∷ record { id = id_of 8 0; old = None; new = Some (numbered 8 80) } ∷ []) ∷ []

-- each entry is the run of its call on the documents before it, and each request stands once
abbrev pub AreWorkedEntries : Type 0
AreWorkedEntries = IsLegal program log

-- one request number of two sessions is legal; not legal: a request of one session stands twice, a reply is another, a write is missing, an entry stands before the one whose document it counts
abbrev pub AreWorkedRefusals : Type 0
AreWorkedRefusals =
    IsLegal program (added ∷ of_session 2 (sized 1 1) ∷ [])
    × (IsLegal program (sized 1 0 ∷ sized 2 0 ∷ sized 3 0 ∷ sized 2 0 ∷ []) → ⊥)
    × (IsLegal program (sized 2 1 ∷ []) → ⊥)
    × (IsLegal program (logged 1 (codes "add") (natural 1) (gives (natural 1)) [] ∷ []) → ⊥)
    × (IsLegal program (sized 2 1 ∷ added ∷ []) → ⊥)

-- the documents after so many entries
abbrev pub AreWorkedDocuments : Type 0
AreWorkedDocuments =
    (docs_at log 0 ≡ [])
    × (docs_at log 1 ≡ first ∷ [])
    × (doc_of (id_of 1 0) (docs_at log 2) ≡ Some first)
    × (doc_of (id_of 2 0) (docs_at log 2) ≡ Some second)
    × (doc_of (id_of 3 0) (docs_at log 3) ≡ None)
    × (doc_of (id_of 1 0) (docs_at log 4) ≡ Some first)
    × (doc_of (id_of 1 0) (docs_at log 5) ≡ Some raised)
    × (doc_of (id_of 2 0) (docs_at log 5) ≡ Some second)
    × (docs_at log 6 ≡ raised ∷ [])
    × (docs_at log 7 ≡ raised ∷ [])
    × (docs_at log 8 ≡ numbered 8 80 ∷ [])

-- the answers of the two queries after so many entries
abbrev size_at : ℕ → Reply
size_at ts = answer_at program (codes "size") [] log ts

abbrev number_at : ℕ → Reply
number_at ts = answer_at program (codes "number") (with_x (string (text_of_id 1 0))) log ts

abbrev pub AreWorkedAnswers : Type 0
AreWorkedAnswers =
    (size_at 0 ≡ gives (natural 0))
    × (size_at 1 ≡ gives (natural 1))
    × (size_at 2 ≡ gives (natural 2))
    × (size_at 3 ≡ gives (natural 2))
    × (size_at 4 ≡ gives (natural 2))
    × (size_at 5 ≡ gives (natural 2))
    × (size_at 6 ≡ gives (natural 1))
    × (size_at 8 ≡ gives (natural 1))
    × (number_at 0 ≡ failed (codes "TypeError"))
    × (number_at 1 ≡ gives (natural 1))
    × (number_at 4 ≡ gives (natural 1))
    × (number_at 5 ≡ gives (natural 9))
    × (number_at 7 ≡ gives (natural 9))
    × (number_at 8 ≡ failed (codes "TypeError"))
    × (answer_at program (codes "add") (with_x null) log 7 ≡ failed (codes "UnknownFunction"))

abbrev pub IsWorkedHistories : Type 0
IsWorkedHistories = AreWorkedEntries × AreWorkedRefusals × AreWorkedDocuments × AreWorkedAnswers
