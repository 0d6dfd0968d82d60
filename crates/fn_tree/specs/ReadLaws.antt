-- What a run reads decides it.
use Rattle.std.specs.Prelude.{◌≡◌, List, [], ◌∷◌}
use Rattle.cv_keys.specs.Places.{PlaceInterval}
use Rattle.cv_keys.specs.declared.schema.Schema.{Schema}
use Rattle.fn_tree.specs.Course.{Course}
use Rattle.fn_tree.specs.Documents.{Docs}
use Rattle.fn_tree.specs.Functions.{Start}
use Rattle.fn_tree.specs.PutLaws.{IsFresh}
use Rattle.fn_tree.specs.Rows.{rows_at}
use Rattle.fn_tree.specs.Run.{played, run}
use Rattle.fn_tree.specs.Schemas.{schema_of}
use Rattle.fn_tree.specs.SyntaxTree.{ModuleTree}
use Rattle.fn_tree.specs.declared.stop.Put.{Put}

-- both have the same rows in each of the intervals
abbrev pub SameRows : Schema → Docs → Docs → List PlaceInterval → Type 0
SameRows schema d e [] = Unit {0}
SameRows schema d e (i ∷ intervals) = (rows_at schema i d ≡ rows_at schema i e) × SameRows schema d e intervals

-- a course goes the same way on documents that have the same rows in what it read on others, whatever was put before
abbrev pub ReadsDecide : Type 0
ReadsDecide = (schema : Schema) (course : Course) (puts : List Put) (d e : Docs) → SameRows schema d e (played schema d puts course).reads
    → played schema e puts course ≡ played schema d puts course

-- the run of a call is the same on documents that have the same rows in what it read on others, where neither holds an id of the call
abbrev pub RunsAgree : Type 0
RunsAgree = (m : ModuleTree) (s : Start) (d e : Docs) → IsFresh s.origin 0 d → IsFresh s.origin 0 e → SameRows (schema_of m.tables) d e (run m s d).reads
    → run m s e ≡ run m s d
