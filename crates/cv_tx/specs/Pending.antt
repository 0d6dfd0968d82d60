-- The pending writes of a run.
use Rattle.std.specs.Prelude.{◌≡◌, ℕ, ◌||◌, cond, List, [], ◌∷◌, filter, Option, Some, None, is_some, IfSome}
use Rattle.std.specs.List.{position_from}
use Rattle.std.specs.Option.{option_or}
use Rattle.cv_values.specs.declared.doc.Doc.{Doc}
use Rattle.cv_values.specs.declared.ids.DocId.{DocId}
use Rattle.cv_keys.specs.declared.interval.Interval.{Interval}
use Rattle.cv_keys.specs.declared.write.Write.{Write}
use Rattle.fn_tree.specs.Documents.{Docs, same_id, doc_of, with_doc}
use Rattle.fn_tree.specs.declared.entry.Reply.{Reply}
use Rattle.fn_tree.specs.declared.entry.Reply.TheVariants.{Value, Failed}
use Rattle.fn_tree.specs.declared.stop.Put.{Put}

-- a run under way: its snapshot, its pending writes and the intervals that it has read
pub record Under : Type 0 where
  pub snapshot : ℕ
  pub pending : List Write
  pub reads : List Interval

-- the pending writes with one put more: the first put of an id makes a write, a later one changes its new document
abbrev pub placed : Put → List Write → List Write
placed p [] = record { id = p.id; old = p.old; new = p.new } ∷ []
placed p (w ∷ ws) = cond (same_id p.id w.id) (record w { new = p.new } ∷ ws) (w ∷ placed p ws)

-- the pending writes of some puts, one after another
abbrev pub pending_after : List Write → List Put → List Write
pending_after ws [] = ws
pending_after ws (p ∷ ps) = pending_after (placed p ws) ps

-- no two documents have one id
abbrev pub HasDistinctIds : Docs → Type 0
HasDistinctIds [] = Unit {0}
HasDistinctIds (d ∷ ds) = (doc_of d.id ds ≡ None) × HasDistinctIds ds

-- each write tells the document that is there after those before it, and its new document has its id
abbrev pub AreTrue : Docs → List Write → Type 0
AreTrue ds [] = Unit {0}
AreTrue ds (w ∷ ws) = (w.old ≡ doc_of w.id ds) × IfSome w.new (λ d. d.id ≡ w.id) × AreTrue (with_doc w.id w.new ds) ws

-- the number of the first write of an id
abbrev pub write_at : DocId → List Write → Option ℕ
write_at id ws = position_from (λ w. same_id id w.id) 0 ws

-- what the last write of an id makes of its document
abbrev pub new_of : DocId → List Write → Option (Option Doc)
new_of id [] = None
new_of id (w ∷ ws) = option_or (new_of id ws) (cond (same_id id w.id) (Some w.new) None)

-- the writes that a run leaves: none where its reply is an error, else those of an id that had a document or has one
abbrev pub written : Reply → List Write → List Write
written (Value v) ws = filter (λ w. is_some w.old || is_some w.new) ws
written (Failed why) ws = []
