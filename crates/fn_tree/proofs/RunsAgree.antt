-- Runs agree where what they read does.
use Rattle.std.proofs.Common.{◌≡◌, Bool, true, false, cond, List, [], ◌∷◌, Option, refl, sym, ap, ◌∙◌, subst}
use Rattle.std.specs.Prelude.{◌||◌}
use Rattle.std.proofs.lemmas.Bool.{or_parts, or_left, or_right}
use Rattle.cv_values.specs.declared.doc.Doc.{Doc}
use Rattle.cv_values.specs.declared.ids.DocId.{DocId}
use Rattle.cv_keys.specs.declared.write.Write.{Write}
use Rattle.fn_tree.specs.Course.{Reply, gives, failed}
use Rattle.fn_tree.specs.Documents.{Docs, same_id, doc_of, with_doc}
use Rattle.fn_tree.specs.Functions.{course_of}
use Rattle.fn_tree.specs.ReadLaws.{RunsAgree}
use Rattle.fn_tree.specs.Run.{Run, Played, played, with_puts, puts_to, unless_gone, writes_to, writes_of, run_of}
use Rattle.fn_tree.specs.Schemas.{schema_of}
use Rattle.fn_tree.specs.declared.start.Origin.{Origin}
use Rattle.fn_tree.specs.declared.stop.Put.{Put}
use Rattle.fn_tree.proofs.DocumentLemmas.{same_id_is, same_id_itself, by_test, doc_of-with_doc, doc_of-with_doc_itself}
use Rattle.fn_tree.proofs.PlayedPuts.{AllTrue, played_true}
use Rattle.fn_tree.proofs.ReadsDecide.{reads_decide}
use Rattle.fn_tree.proofs.TrueRuns.{runs_put_truly}

-- an id that isn't put to keeps its document
not_put : (origin : Option Origin) (id : DocId) (ps : List Put) (ds : Docs) → AllTrue origin ds ps → puts_to id ps ≡ false → doc_of id (with_puts ps ds) ≡ doc_of id ds
not_put origin id [] ds h e = refl
not_put origin id (p ∷ ps) ds h e =
    not_put origin id ps (with_doc p.id p.new ds) h.1 (or_parts _ _ e).1 ∙ doc_of-with_doc id p.id p.new ds h.0.new (or_parts _ _ e).0

-- one that is put to has the document that was put last
put_alike : (origin : Option Origin) (id : DocId) (ps : List Put) (d e : Docs) → AllTrue origin d ps → AllTrue origin e ps → puts_to id ps ≡ true →
    doc_of id (with_puts ps d) ≡ doc_of id (with_puts ps e)
put_alike origin id [] d e h k is = cc
put_alike origin id (p ∷ ps) d e h k is = by_test (puts_to id ps)
    (λ t. put_alike origin id ps (with_doc p.id p.new d) (with_doc p.id p.new e) h.1 k.1 t)
    (λ f. not_put origin id ps (with_doc p.id p.new d) h.1 f ∙ last f ∙ sym (not_put origin id ps (with_doc p.id p.new e) k.1 f))
  where
    last : puts_to id ps ≡ false → doc_of id (with_doc p.id p.new d) ≡ doc_of id (with_doc p.id p.new e)
    last f =
        let same : id ≡ p.id = same_id_is id p.id (first (same_id id p.id) f is) in
        ap (λ j. doc_of j (with_doc p.id p.new d)) same ∙ doc_of-with_doc_itself p.id p.new d h.0.new
        ∙ sym (ap (λ j. doc_of j (with_doc p.id p.new e)) same ∙ doc_of-with_doc_itself p.id p.new e k.0.new)
      where
        first : (b : Bool) → puts_to id ps ≡ false → b || puts_to id ps ≡ true → b ≡ true
        first true q r = refl
        first false q r = sym q ∙ r

-- the writes are the same where the puts are true of both
writes_alike : (origin : Option Origin) (d e now now' after after' : Docs) (earlier ps : List Put) →
    ((id : DocId) → puts_to id earlier ≡ false → doc_of id now ≡ doc_of id d) → ((id : DocId) → puts_to id earlier ≡ false → doc_of id now' ≡ doc_of id e) →
    AllTrue origin now ps → AllTrue origin now' ps → ((id : DocId) → puts_to id ps ≡ true → doc_of id after ≡ doc_of id after') →
    writes_to d after earlier ps ≡ writes_to e after' earlier ps
writes_alike origin d e now now' after after' earlier [] u v h k same = refl
writes_alike origin d e now now' after after' earlier (p ∷ ps) u v h k same =
    go (puts_to p.id earlier) refl
    (writes_alike origin d e (with_doc p.id p.new now) (with_doc p.id p.new now') after after' (p ∷ earlier) ps
    (λ id f. doc_of-with_doc id p.id p.new now h.0.new (or_parts _ _ f).0 ∙ u id (or_parts _ _ f).1)
    (λ id f. doc_of-with_doc id p.id p.new now' k.0.new (or_parts _ _ f).0 ∙ v id (or_parts _ _ f).1)
    h.1 k.1 (λ id t. same id (or_right _ _ t)))
  where
    rest : List Write
    rest = writes_to d after (p ∷ earlier) ps

    rest' : List Write
    rest' = writes_to e after' (p ∷ earlier) ps

    one : (old new : Option Doc) → Write
    one old new = record { id = p.id; old = old; new = new }

    go : (b : Bool) → puts_to p.id earlier ≡ b → rest ≡ rest' →
        cond b rest (unless_gone (one (doc_of p.id d) (doc_of p.id after)) rest) ≡ cond b rest' (unless_gone (one (doc_of p.id e) (doc_of p.id after')) rest')
    go true q ih = ih
    go false q ih =
        let olds : doc_of p.id d ≡ doc_of p.id e = sym (u p.id q) ∙ sym h.0.old ∙ k.0.old ∙ v p.id q in
        let news : doc_of p.id after ≡ doc_of p.id after' = same p.id (or_left _ _ (same_id_itself p.id)) in
        ap (λ x. unless_gone (one x (doc_of p.id after)) rest) olds ∙ ap (λ x. unless_gone (one (doc_of p.id e) x) rest) news ∙ ap (unless_gone (one (doc_of p.id e) (doc_of p.id after'))) ih

same_writes : (origin : Option Origin) (reply : Reply) (d e : Docs) (ps : List Put) → AllTrue origin d ps → AllTrue origin e ps → writes_of reply e ps ≡ writes_of reply d ps
same_writes origin (gives v) d e ps h k =
    writes_alike origin e d e d (with_puts ps e) (with_puts ps d) [] ps (λ id f. refl) (λ id f. refl) k h (λ id t. put_alike origin id ps e d k h t)
same_writes origin (failed why) d e ps h k = refl

pub runs_agree : RunsAgree
runs_agree m s d e fresh fresh' same =
    ap (run_of e) alike ∙ ap (λ (ws : List Write). let r : Run = record { reply = p.reply; writes = ws; reads = p.reads; cost = p.cost } in r) (same_writes s.origin p.reply d e p.puts trues trues')
  where
    p : Played
    p = played (schema_of m.tables) d [] (course_of m s)

    alike : played (schema_of m.tables) e [] (course_of m s) ≡ p
    alike = reads_decide (schema_of m.tables) (course_of m s) [] d e same

    trues : AllTrue s.origin d p.puts
    trues = played_true (schema_of m.tables) s.origin d [] (course_of m s) tt (runs_put_truly m s d fresh)

    trues' : AllTrue s.origin e p.puts
    trues' = subst (λ (r : Played). AllTrue s.origin e r.puts) alike
        (played_true (schema_of m.tables) s.origin e [] (course_of m s) tt (runs_put_truly m s e fresh'))
