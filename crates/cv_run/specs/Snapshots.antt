-- What a call may take of the documents of its snapshot.
use Rattle.std.specs.Prelude.{◌≡◌, ℕ, ◌≤◌, None, ◌++◌, length}
use Rattle.cv_store.specs.Kept.{kept}
use Rattle.cv_tx.specs.Pending.{HasDistinctIds}
use Rattle.fn_tree.specs.History.{History, IsLegal, start_of, docs_at}
use Rattle.fn_tree.specs.PutLaws.{IsFresh}
use Rattle.fn_tree.specs.SyntaxTree.{ModuleTree}
use Rattle.fn_tree.specs.declared.entry.Call.{Call}

-- no two documents of a timestamp have one id
abbrev pub IdsAreDistinct : Type 0
IdsAreDistinct = (m : ModuleTree) (h : History) → IsLegal m h → (ts : ℕ) → HasDistinctIds (docs_at h ts)

-- none has an id of a call whose session's request has no entry
abbrev pub NewCallsAreFresh : Type 0
NewCallsAreFresh = (m : ModuleTree) (h : History) (call : Call) → IsLegal m h → kept call.session call.request h ≡ None
    → (ts : ℕ) → IsFresh (start_of call).origin 0 (docs_at h ts)

-- what is seen later changes no document of a timestamp
abbrev pub SnapshotsStay : Type 0
SnapshotsStay = (h more : History) (ts : ℕ) → ts ≤ length h → docs_at (h ++ more) ts ≡ docs_at h ts
