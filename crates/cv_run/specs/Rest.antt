-- What is left of a run.
use Rattle.std.specs.Prelude.{◌≡◌, List, [], ◌++◌, map}
use Rattle.cv_keys.specs.Intervals.{in_bytes}
use Rattle.cv_keys.specs.Places.{PlaceInterval}
use Rattle.cv_keys.specs.declared.interval.Interval.{Interval}
use Rattle.cv_keys.specs.declared.write.Write.{Write}
use Rattle.fn_tree.specs.AsksThere.{AsksThere}
use Rattle.cv_store.specs.Reads.{EndsInRange}
use Rattle.cv_tx.specs.Pending.{pending_after}
use Rattle.cv_tx.specs.PutsLaid.{AreTold}
use Rattle.fn_tree.specs.Course.{Course}
use Rattle.fn_tree.specs.Documents.{Docs}
use Rattle.fn_tree.specs.Functions.{Start, course_of}
use Rattle.fn_tree.specs.PutLaws.{PutsAreTrue}
use Rattle.fn_tree.specs.Run.{Played, played, with_puts}
use Rattle.fn_tree.specs.Schemas.{schema_of}
use Rattle.fn_tree.specs.SyntaxTree.{ModuleTree}
use Rattle.fn_tree.specs.declared.stop.Put.{Put}

-- what came of a course that went on after these reads
abbrev pub after_reads : List PlaceInterval → Played → Played
after_reads reads p = record p { reads = reads ++ p.reads }

-- of the run of a call on these documents, where it has these pending writes and has read these intervals, this course is left
pub record IsRest (m : ModuleTree) (s : Start) (ds : Docs) (pending : List Write) (reads : List Interval) (k : Course) : Type 0 where
  pub puts : List Put
  pub ranges : List PlaceInterval
  pub pending_are : pending ≡ pending_after [] puts
  pub reads_are : reads ≡ map in_bytes ranges
  pub ends : EndsInRange ranges
  pub told : AreTold ds puts
  pub truly : PutsAreTrue (schema_of m.tables) s.origin (with_puts puts ds) k
  pub there : AsksThere (schema_of m.tables) k
  pub whole : played (schema_of m.tables) ds [] (course_of m s) ≡ after_reads ranges (played (schema_of m.tables) ds puts k)
