-- Laws of legal histories.
use Rattle.std.specs.Prelude.{◌≡◌, ◌⊎◌, ℕ, [], ◌∷◌, ◌++◌, take, Some}
use Rattle.cv_values.specs.declared.doc.Doc.{Doc}
use Rattle.cv_values.specs.declared.ids.DocId.{DocId}
use Rattle.fn_tree.specs.Documents.{doc_of}
use Rattle.fn_tree.specs.History.{Entry, History, IsLegal, IsRunOn, Pair, HasNoPair, pair_of, docs_after, docs_at}
use Rattle.fn_tree.specs.SyntaxTree.{ModuleTree}

-- a front of a legal history is legal
abbrev pub FrontsAreLegal : Type 0
FrontsAreLegal = (m : ModuleTree) (h rest : History) → IsLegal m (h ++ rest) → IsLegal m h

-- a legal history goes on by the run of a call whose pair it doesn't hold
abbrev pub GoOnByRuns : Type 0
GoOnByRuns = (m : ModuleTree) (h : History) (e : Entry) → IsLegal m h → IsRunOn m (docs_after h []) e → HasNoPair (pair_of e) h → IsLegal m (h ++ e ∷ [])

-- an entry has this pair
abbrev pub HasPair : Pair → History → Type 0
HasPair pair [] = ⊥
HasPair pair (e ∷ h) = (pair ≡ pair_of e) ⊎ HasPair pair h

-- each document's id has the pair of an entry up to its timestamp
abbrev pub IdsHavePairs : Type 0
IdsHavePairs = (m : ModuleTree) (h : History) → IsLegal m h → (ts : ℕ) (id : DocId) (d : Doc) → doc_of id (docs_at h ts) ≡ Some d → HasPair (id.session, id.request) (take ts h)
