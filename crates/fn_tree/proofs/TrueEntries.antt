-- The writes of a run tell what is there before them, and each id has at most one document.
use Rattle.std.proofs.Common.{◌≡◌, Bool, true, false, not, cond, List, [], ◌∷◌, Option, Some, None, refl, sym, ap, ◌∙◌, subst}
use Rattle.std.specs.Prelude.{IfSome, is_some, ◌||◌}
use Rattle.std.proofs.lemmas.Bool.{cond_both, or_parts}
use Rattle.cv_values.specs.declared.doc.Doc.{Doc}
use Rattle.cv_values.specs.declared.ids.DocId.{DocId}
use Rattle.cv_keys.specs.declared.write.Write.{Write}
use Rattle.fn_tree.specs.Course.{Reply, gives, failed}
use Rattle.fn_tree.specs.Documents.{Docs, same_id, doc_of, without_id, with_doc, applied}
use Rattle.fn_tree.specs.Functions.{course_of}
use Rattle.fn_tree.specs.History.{Entry, History, IsRunOn, AreRuns, start_of, docs_after}
use Rattle.fn_tree.specs.Run.{Played, played, with_puts, puts_to, writes_to, writes_of}
use Rattle.fn_tree.specs.Schemas.{schema_of}
use Rattle.fn_tree.specs.SyntaxTree.{ModuleTree}
use Rattle.fn_tree.specs.declared.stop.Put.{Put}
use Rattle.fn_tree.proofs.DocumentLemmas.{same_id_is, by_test, doc_of-without, doc_of-without_itself, doc_of-with_doc, doc_of_id}

-- ---- writes

-- each write tells the document that is there after those before it, and its new document has its id
abbrev pub TellTruly : Docs → List Write → Type 0
TellTruly ds [] = Unit {0}
TellTruly ds (w ∷ ws) = (w.old ≡ doc_of w.id ds) × IfSome w.new (λ d. d.id ≡ w.id) × TellTruly (with_doc w.id w.new ds) ws

-- the documents now are those before, but for the ids of earlier puts
abbrev Apart : (before now : Docs) → List Put → Type 0
Apart before now earlier = (id : DocId) → puts_to id earlier ≡ false → doc_of id now ≡ doc_of id before

writes_tell : (before after now : Docs) (earlier ps : List Put) → Apart before now earlier → TellTruly now (writes_to before after earlier ps)
writes_tell before after now earlier [] u = tt
writes_tell before after now earlier (p ∷ ps) u =
    go (puts_to p.id earlier) refl (is_some (doc_of p.id before) || is_some (doc_of p.id after)) (λ next v. writes_tell before after next (p ∷ earlier) ps v)
  where
    rest : List Write
    rest = writes_to before after (p ∷ earlier) ps

    w : Write
    w = record { id = p.id; old = doc_of p.id before; new = doc_of p.id after }

    later : Apart before now (p ∷ earlier)
    later id f = u id (or_parts (same_id id p.id) (puts_to id earlier) f).1

    changed : Apart before (with_doc p.id (doc_of p.id after) now) (p ∷ earlier)
    changed id f = doc_of-with_doc id p.id (doc_of p.id after) now (doc_of_id p.id after) (or_parts (same_id id p.id) (puts_to id earlier) f).0 ∙ later id f

    go : (b : Bool) → puts_to p.id earlier ≡ b → (c : Bool) → ((next : Docs) → Apart before next (p ∷ earlier) → TellTruly next rest)
        → TellTruly now (cond b rest (cond c (w ∷ rest) rest))
    go true e c ih = ih now later
    go false e true ih = (sym (u p.id e), doc_of_id p.id after, ih (with_doc p.id (doc_of p.id after) now) changed)
    go false e false ih = ih now later

run_tells : (reply : Reply) (ds : Docs) (puts : List Put) → TellTruly ds (writes_of reply ds puts)
run_tells (gives v) ds puts = writes_tell ds (with_puts puts ds) ds [] puts (λ id f. refl)
run_tells (failed why) ds puts = tt

pub entry_tells : (m : ModuleTree) (ds : Docs) (e : Entry) → IsRunOn m ds e → TellTruly ds e.writes
entry_tells m ds e is =
    let p : Played = played (schema_of m.tables) ds [] (course_of m (start_of e.call)) in
    subst (TellTruly ds) (sym is.writes) (run_tells p.reply ds p.puts)

-- ---- each id at most once

abbrev pub Once : Docs → Type 0
Once [] = Unit {0}
Once (d ∷ ds) = (doc_of d.id ds ≡ None) × Once ds

doc_of-gone : (id other : DocId) (ds : Docs) → doc_of other ds ≡ None → doc_of other (without_id id ds) ≡ None
doc_of-gone id other ds e = by_test (same_id other id)
    (λ s. ap (λ k. doc_of k (without_id id ds)) (same_id_is other id s) ∙ doc_of-without_itself id ds)
    (λ s. doc_of-without other id ds s ∙ e)

once_without : (id : DocId) (ds : Docs) → Once ds → Once (without_id id ds)
once_without id [] h = tt
once_without id (d ∷ ds) h =
    cond_both (not (same_id id d.id)) _ _ Once (λ _. (doc_of-gone id d.id ds h.0, once_without id ds h.1)) (λ _. once_without id ds h.1)

pub once_with : (id : DocId) (new : Option Doc) (ds : Docs) → IfSome new (λ d. d.id ≡ id) → Once ds → Once (with_doc id new ds)
once_with id None ds h k = once_without id ds k
once_with id (Some d) ds h k = (ap (λ j. doc_of j (without_id id ds)) h ∙ doc_of-without_itself id ds, once_without id ds k)

pub once_applied : (ws : List Write) (ds : Docs) → Once ds → TellTruly ds ws → Once (applied ws ds)
once_applied [] ds h k = h
once_applied (w ∷ ws) ds h k = once_applied ws (with_doc w.id w.new ds) (once_with w.id w.new ds k.1 h) k.2

pub once_after : (m : ModuleTree) (h : History) (ds : Docs) → Once ds → AreRuns m ds h → Once (docs_after h ds)
once_after m [] ds o k = o
once_after m (e ∷ h) ds o k = once_after m h (applied e.writes ds) (once_applied e.writes ds o (entry_tells m ds e k.0)) k.1
