-- Histories, and which of them one thread could have made.
use Rattle.std.specs.Prelude.{◌≡◌, ◌≢◌, ℕ, List, [], ◌∷◌, take, Some, None}
use Rattle.cv_values.specs.Value.{Value}
use Rattle.cv_keys.specs.declared.write.Write.{Write}
use Rattle.fn_tree.specs.Course.{Reply}
use Rattle.fn_tree.specs.Documents.{Docs, applied}
use Rattle.fn_tree.specs.Functions.{Start}
use Rattle.fn_tree.specs.Run.{run}
use Rattle.fn_tree.specs.SyntaxTree.{ModuleTree}
use Rattle.fn_tree.specs.declared.entry.Call.{Call}

-- an entry of the log: a call of a mutation, with its reply and what it wrote
pub record Entry : Type 0 where
  pub call : Call
  pub reply : Reply
  pub writes : List Write

abbrev pub History : Type 0
History = List Entry

-- the start of a mutation's run
abbrev pub start_of : Call → Start
start_of c = record { udf = c.udf; args = c.args; origin = Some (record { session = c.session; request = c.request; now = c.now }) }

-- the start of a query's run
abbrev pub query_start : (udf : List ℕ) → (args : List (List ℕ × Value)) → Start
query_start udf args = record { udf = udf; args = args; origin = None }

-- what the entries leave of these documents
abbrev pub docs_after : History → Docs → Docs
docs_after [] ds = ds
docs_after (e ∷ h) ds = docs_after h (applied e.writes ds)

-- the documents at a timestamp, after so many entries
abbrev pub docs_at : History → ℕ → Docs
docs_at h ts = docs_after (take ts h) []

-- the entry is the run of its call
pub record IsRunOn (m : ModuleTree) (ds : Docs) (e : Entry) : Type 0 where
  pub reply : e.reply ≡ (run m (start_of e.call) ds).reply
  pub writes : e.writes ≡ (run m (start_of e.call) ds).writes

-- each entry is the run of its call on the documents before it
abbrev pub AreRuns : ModuleTree → Docs → History → Type 0
AreRuns m ds [] = Unit {0}
AreRuns m ds (e ∷ h) = IsRunOn m ds e × AreRuns m (applied e.writes ds) h

-- a session and the number of a request
abbrev pub Pair : Type 0
Pair = ℕ × ℕ

abbrev pub pair_of : Entry → Pair
pair_of e = (e.call.session, e.call.request)

abbrev pub HasNoPair : Pair → History → Type 0
HasNoPair pair [] = Unit {0}
HasNoPair pair (e ∷ h) = (pair ≢ pair_of e) × HasNoPair pair h

-- no pair stands twice
abbrev pub HasDistinctPairs : History → Type 0
HasDistinctPairs [] = Unit {0}
HasDistinctPairs (e ∷ h) = HasNoPair (pair_of e) h × HasDistinctPairs h

-- a run of one thread: whole functions, one after the other, each request once
pub record IsLegal (m : ModuleTree) (h : History) : Type 0 where
  pub runs : AreRuns m [] h
  pub once : HasDistinctPairs h

-- the answer of a query at a timestamp
abbrev pub answer_at : ModuleTree → (udf : List ℕ) → (args : List (List ℕ × Value)) → History → (ts : ℕ) → Reply
answer_at m udf args h ts = (run m (query_start udf args) (docs_at h ts)).reply
