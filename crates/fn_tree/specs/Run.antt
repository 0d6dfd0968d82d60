-- The run of a call on documents: its reply, its writes, what it read, and its cost.
use Rattle.std.specs.Prelude.{ℕ, Bool, false, ◌||◌, cond, List, [], ◌∷◌, ◌++◌, is_some}
use Rattle.cv_values.specs.declared.ids.DocId.{DocId}
use Rattle.cv_keys.specs.Places.{PlaceInterval}
use Rattle.cv_keys.specs.declared.schema.Schema.{Schema}
use Rattle.cv_keys.specs.declared.write.Write.{Write}
use Rattle.fn_tree.specs.Actions.{Limits}
use Rattle.fn_tree.specs.Course.{Reply, gives, failed, Course, done, ask, put}
use Rattle.fn_tree.specs.Documents.{Docs, same_id, doc_of, with_doc}
use Rattle.fn_tree.specs.Functions.{Start, limits_of, course_within}
use Rattle.fn_tree.specs.Scan.{answer}
use Rattle.fn_tree.specs.Schemas.{schema_of}
use Rattle.fn_tree.specs.SyntaxTree.{ModuleTree}
use Rattle.fn_tree.specs.declared.stop.Put.{Put}

-- the documents after some puts, one after another
abbrev pub with_puts : List Put → Docs → Docs
with_puts [] ds = ds
with_puts (p ∷ ps) ds = with_puts ps (with_doc p.id p.new ds)

-- ---- a course on documents

-- what came of a course that was followed to its end
pub record Played : Type 0 where
  pub reply : Reply
  pub puts : List Put
  pub reads : List PlaceInterval
  pub cost : ℕ

-- a course followed on these documents, after these puts: each read sees the documents with the puts so far
abbrev pub played : Schema → Docs → List Put → Course → Played
played schema ds puts (done o) = record { reply = o.reply; puts = puts; reads = []; cost = o.cost }
played schema ds puts (put p next) = played schema ds (puts ++ p ∷ []) next
played schema ds puts (ask q next) =
    let a = answer schema (with_puts puts ds) q in
    let rest = played schema ds puts (next a.docs) in
    record rest { reads = a.consumed ∷ rest.reads }

-- ---- writes

abbrev pub puts_to : DocId → List Put → Bool
puts_to id [] = false
puts_to id (p ∷ ps) = same_id id p.id || puts_to id ps

abbrev pub unless_gone : Write → List Write → List Write
unless_gone w ws = cond (is_some w.old || is_some w.new) (w ∷ ws) ws

-- one write for each id, in order of its first put: the document before the run and the one after it; none where there is neither
abbrev pub writes_to : (before after : Docs) → (earlier puts : List Put) → List Write
writes_to before after earlier [] = []
writes_to before after earlier (p ∷ ps) =
    let rest = writes_to before after (p ∷ earlier) ps in
    cond (puts_to p.id earlier) rest
    (unless_gone (record { id = p.id; old = doc_of p.id before; new = doc_of p.id after }) rest)

-- an error drops the writes
abbrev pub writes_of : Reply → Docs → List Put → List Write
writes_of (gives v) ds puts = writes_to ds (with_puts puts ds) [] puts
writes_of (failed why) ds puts = []

-- ---- the run

pub record Run : Type 0 where
  pub reply : Reply
  pub writes : List Write
  pub reads : List PlaceInterval
  pub cost : ℕ

abbrev pub run_of : Docs → Played → Run
run_of ds p = record { reply = p.reply; writes = writes_of p.reply ds p.puts; reads = p.reads; cost = p.cost }

abbrev pub run_within : Limits → ModuleTree → Start → Docs → Run
run_within limits m s ds = run_of ds (played (schema_of m.tables) ds [] (course_within limits m s))

abbrev pub run : ModuleTree → Start → Docs → Run
run m s ds = run_within (limits_of s.origin) m s ds
