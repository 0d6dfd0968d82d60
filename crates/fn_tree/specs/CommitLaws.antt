-- What no later entry touches stays: the run of a call, and the answer of a query.
use Rattle.std.specs.Prelude.{◌≡◌, ℕ, false, List, [], ◌∷◌, ◌++◌, drop}
use Rattle.std.specs.List.{AllByRecursion}
use Rattle.cv_values.specs.Value.{Value}
use Rattle.cv_keys.specs.Places.{PlaceInterval}
use Rattle.cv_keys.specs.Touch.{touches_places}
use Rattle.cv_keys.specs.declared.schema.Schema.{Schema}
use Rattle.cv_keys.specs.declared.write.Write.{Write}
use Rattle.fn_tree.specs.History.{Entry, History, IsLegal, IsRunOn, HasNoPair, pair_of, start_of, query_start, docs_after, docs_at}
use Rattle.fn_tree.specs.Run.{run}
use Rattle.fn_tree.specs.Schemas.{schema_of}
use Rattle.fn_tree.specs.SyntaxTree.{ModuleTree}

-- the write touches none of the intervals
abbrev pub TouchesNone : Schema → List PlaceInterval → Write → Type 0
TouchesNone schema intervals w = AllByRecursion (λ i. touches_places schema w i ≡ false) intervals

-- no write of an entry after the timestamp touches one of the intervals
abbrev pub IsUntouched : Schema → List PlaceInterval → History → (ts : ℕ) → Type 0
IsUntouched schema intervals h ts = AllByRecursion (λ e. AllByRecursion (TouchesNone schema intervals) e.writes) (drop ts h)

-- the run of a call on an older snapshot may be appended, where no later entry touches what it read and none has the call's pair
abbrev pub CommitsAreLegal : Type 0
CommitsAreLegal = (m : ModuleTree) (h : History) (ts : ℕ) (e : Entry) → IsLegal m h → HasNoPair (pair_of e) h → IsRunOn m (docs_at h ts) e
    → IsUntouched (schema_of m.tables) (run m (start_of e.call) (docs_at h ts)).reads h ts → IsLegal m (h ++ e ∷ [])

-- the run of a query on an older snapshot is its run on the newest one, where no later entry touches what it read
abbrev pub AnswersStay : Type 0
AnswersStay = (m : ModuleTree) (h : History) (ts : ℕ) (udf : List ℕ) (args : List (List ℕ × Value)) → IsLegal m h
    → IsUntouched (schema_of m.tables) (run m (query_start udf args) (docs_at h ts)).reads h ts
    → run m (query_start udf args) (docs_after h []) ≡ run m (query_start udf args) (docs_at h ts)
