-- Each scan of a run is one of an index that its program has.
use Rattle.std.specs.Prelude.{List, IsSome}
use Rattle.cv_values.specs.declared.doc.Doc.{Doc}
use Rattle.cv_keys.specs.Documents.{index_at}
use Rattle.cv_keys.specs.declared.schema.Schema.{Schema}
use Rattle.fn_tree.specs.Course.{Ask, get_doc, scan_rows, Course, done, ask, put}
use Rattle.fn_tree.specs.Functions.{Start, course_of}
use Rattle.fn_tree.specs.Schemas.{schema_of}
use Rattle.fn_tree.specs.SyntaxTree.{ModuleTree}

abbrev pub IsThere : Schema → Ask → Type 0
IsThere schema (get_doc id left) = Unit {0}
IsThere schema (scan_rows i desc limit left) = IsSome (index_at schema i.table i.index)

-- along the course each scan is one of an index that is there, whatever the answers are
abbrev pub AsksThere : Schema → Course → Type 0
AsksThere schema (done o) = Unit {0}
AsksThere schema (ask q next) = IsThere schema q × ((rows : List Doc) → AsksThere schema (next rows))
AsksThere schema (put p next) = AsksThere schema next

-- the course of each call is such a course
abbrev pub RunsAskThere : Type 0
RunsAskThere = (m : ModuleTree) (s : Start) → AsksThere (schema_of m.tables) (course_of m s)
