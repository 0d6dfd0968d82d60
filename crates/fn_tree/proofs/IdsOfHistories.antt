-- Each document's id has the session and the request of an entry.
use Rattle.std.proofs.Common.{◌≡◌, ℕ, zero, suc, ◌||◌, List, [], ◌∷◌, ◌++◌, take, Option, Some, None, refl, sym, ◌∙◌, subst, inl, inr, append_assoc}
use Rattle.std.specs.Prelude.{IfSome, IfNone, is_some}
use Rattle.std.proofs.lemmas.Bool.{cond_both}
use Rattle.cv_values.specs.declared.doc.Doc.{Doc}
use Rattle.cv_values.specs.declared.ids.DocId.{DocId}
use Rattle.cv_keys.specs.declared.write.Write.{Write}
use Rattle.fn_tree.specs.Course.{Reply, gives, failed}
use Rattle.fn_tree.specs.Documents.{Docs, same_id, doc_of, with_doc, applied}
use Rattle.fn_tree.specs.Functions.{course_of}
use Rattle.fn_tree.specs.History.{Entry, History, IsRunOn, AreRuns, Pair, HasNoPair, HasDistinctPairs, pair_of, start_of, docs_after}
use Rattle.fn_tree.specs.HistoryLaws.{HasPair, IdsHavePairs}
use Rattle.fn_tree.specs.PutLaws.{IsFresh, IsOwn, IsTrueOf}
use Rattle.fn_tree.specs.Run.{Played, played, with_puts, puts_to, writes_to, writes_of, run}
use Rattle.fn_tree.specs.Schemas.{schema_of}
use Rattle.fn_tree.specs.SyntaxTree.{ModuleTree}
use Rattle.fn_tree.specs.declared.entry.Call.{Call}
use Rattle.fn_tree.proofs.DocumentLemmas.{same_id_is, by_test, some_none, doc_of-with_doc, doc_of_id}
use Rattle.fn_tree.proofs.PlayedPuts.{AllTrue, played_true}
use Rattle.fn_tree.proofs.TrueRuns.{runs_put_truly}
use Rattle.fn_tree.specs.declared.stop.Put.{Put}
use Rattle.fn_tree.specs.declared.start.Origin.{Origin}

-- ---- documents, puts and writes whose ids have something in common

module _ (Known : DocId → Type 0) where
  abbrev pub AllKnown : Docs → Type 0
  AllKnown ds = (id : DocId) (d : Doc) → doc_of id ds ≡ Some d → Known id

  known_with : (id : DocId) (new : Option Doc) (ds : Docs) → Known id → IfSome new (λ d. d.id ≡ id) → AllKnown ds → AllKnown (with_doc id new ds)
  known_with id new ds k h all = λ other d e. by_test (same_id other id)
      (λ s. subst Known (sym (same_id_is other id s)) k)
      (λ s. all other d (sym (doc_of-with_doc other id new ds h s) ∙ e))

  abbrev AllPut : List Put → Type 0
  AllPut [] = Unit {0}
  AllPut (p ∷ ps) = Known p.id × AllPut ps

  abbrev AllWritten : List Write → Type 0
  AllWritten [] = Unit {0}
  AllWritten (w ∷ ws) = Known w.id × IfSome w.new (λ d. d.id ≡ w.id) × AllWritten ws

  writes_known : (before after : Docs) (earlier ps : List Put) → AllPut ps → AllWritten (writes_to before after earlier ps)
  writes_known before after earlier [] h = tt
  writes_known before after earlier (p ∷ ps) h =
      let rest = writes_known before after (p ∷ earlier) ps h.1 in
      cond_both (puts_to p.id earlier) _ _ AllWritten (λ _. rest)
      (λ _. cond_both (is_some (doc_of p.id before) || is_some (doc_of p.id after)) _ _ AllWritten (λ _. (h.0, doc_of_id p.id after, rest)) (λ _. rest))

  replies_known : (reply : Reply) (ds : Docs) (ps : List Put) → AllPut ps → AllWritten (writes_of reply ds ps)
  replies_known (gives v) ds ps h = writes_known ds (with_puts ps ds) [] ps h
  replies_known (failed why) ds ps h = tt

  applied_known : (ws : List Write) (ds : Docs) → AllWritten ws → AllKnown ds → AllKnown (applied ws ds)
  applied_known [] ds h all = all
  applied_known (w ∷ ws) ds h all = applied_known ws (with_doc w.id w.new ds) h.2 (known_with w.id w.new ds h.0 h.1 all)

  -- true puts go to known ids, where the run's own are known
  module _ (origin : Option Origin) (own : (id : DocId) → IsOwn origin id → Known id) where
    put_known : (ds : Docs) (p : Put) → AllKnown ds → IsTrueOf origin ds p → Known p.id
    put_known ds p all so = go p.old so.old so.own
      where
        go : (x : Option Doc) → x ≡ doc_of p.id ds → IfNone x (IsOwn origin p.id) → Known p.id
        go None e k = own p.id k
        go (Some d) e k = all p.id d (sym e)

    puts_known : (ds : Docs) (ps : List Put) → AllKnown ds → AllTrue origin ds ps → AllPut ps
    puts_known ds [] all h = tt
    puts_known ds (p ∷ ps) all h =
        let k = put_known ds p all h.0 in
        (k, puts_known (with_doc p.id p.new ds) ps (known_with p.id p.new ds k h.0.new all) h.1)

-- ---- pairs

abbrev pub Paired : History → DocId → Type 0
Paired h id = HasPair (id.session, id.request) h

not_both : (pair : Pair) (h : History) → HasPair pair h → HasNoPair pair h → ⊥
not_both pair [] k n = k
not_both pair (e ∷ h) (inl s) n = n.0 s
not_both pair (e ∷ h) (inr k) n = not_both pair h k n.1

pair_front : (pair : Pair) (h rest : History) → HasPair pair h → HasPair pair (h ++ rest)
pair_front pair [] rest k = absurd k
pair_front pair (e ∷ h) rest (inl s) = inl s
pair_front pair (e ∷ h) rest (inr k) = inr (pair_front pair h rest k)

pair_end : (h : History) (e : Entry) → HasPair (pair_of e) (h ++ e ∷ [])
pair_end [] e = inl refl
pair_end (f ∷ h) e = inr (pair_end h e)

no_pair_behind : (pair : Pair) (h rest : History) → HasNoPair pair (h ++ rest) → HasNoPair pair rest
no_pair_behind pair [] rest n = n
no_pair_behind pair (e ∷ h) rest n = no_pair_behind pair h rest n.1

apart : (h rest : History) (e : Entry) → HasDistinctPairs (h ++ e ∷ rest) → HasNoPair (pair_of e) h
apart [] rest e k = tt
apart (f ∷ h) rest e k = (λ s. (no_pair_behind (pair_of f) h (e ∷ rest) k.0).0 (sym s), apart h rest e k.1)

-- where all ids have the pairs of entries, a call whose pair isn't there finds fresh documents
pub fresh_call : (h : History) (call : Call) (ds : Docs) → AllKnown (Paired h) ds → HasNoPair (call.session, call.request) h → IsFresh (start_of call).origin 0 ds
fresh_call h call ds all n = λ table k le.
    let id : DocId = record { table = table; session = call.session; request = call.request; ordinal = k } in
    go id (doc_of id ds) refl (λ d e. not_both (call.session, call.request) h (all id d e) n)
  where
    go : (id : DocId) (x : Option Doc) → doc_of id ds ≡ x → ((d : Doc) → doc_of id ds ≡ Some d → ⊥) → doc_of id ds ≡ None
    go id None e f = e
    go id (Some d) e f = absurd (f d e)

-- ---- histories

entry_known : (m : ModuleTree) (h : History) (e : Entry) (ds : Docs) → AllKnown (Paired h) ds → HasNoPair (pair_of e) h → IsRunOn m ds e →
    AllKnown (Paired (h ++ e ∷ [])) (applied e.writes ds)
entry_known m h e ds all n is =
    subst (λ (ws : List Write). AllKnown Known (applied ws ds)) (sym is.writes)
    (applied_known Known (run m (start_of e.call) ds).writes ds (replies_known Known p.reply ds p.puts puts) more)
  where
    Known : DocId → Type 0
    Known = Paired (h ++ e ∷ [])

    more : AllKnown (Paired (h ++ e ∷ [])) ds
    more id d k = pair_front (id.session, id.request) h (e ∷ []) (all id d k)

    p : Played
    p = played (schema_of m.tables) ds [] (course_of m (start_of e.call))

    own : (id : DocId) → IsOwn (start_of e.call).origin id → Paired (h ++ e ∷ []) id
    own id k = subst (λ pair. HasPair pair (h ++ e ∷ [])) (λ i. (sym k.0 i, sym k.1 i)) (pair_end h e)

    trues : AllTrue (start_of e.call).origin ds p.puts
    trues = played_true (schema_of m.tables) (start_of e.call).origin ds [] (course_of m (start_of e.call)) tt (runs_put_truly m (start_of e.call) ds (fresh_call h e.call ds all n))

    puts : AllPut (Paired (h ++ e ∷ [])) p.puts
    puts = puts_known (Paired (h ++ e ∷ [])) (start_of e.call).origin own ds p.puts more trues

-- after earlier entries, the ids at each later timestamp have pairs
ids_after : (m : ModuleTree) (earlier h : History) (ds : Docs) → AllKnown (Paired earlier) ds → AreRuns m ds h → HasDistinctPairs (earlier ++ h) →
    (ts : ℕ) → AllKnown (Paired (earlier ++ take ts h)) (docs_after (take ts h) ds)
ids_after m earlier h ds all runs once zero id d there = pair_front (id.session, id.request) earlier [] (all id d there)
ids_after m earlier [] ds all runs once (suc ts) id d there = pair_front (id.session, id.request) earlier [] (all id d there)
ids_after m earlier (e ∷ h) ds all runs once (suc ts) id d there =
    subst (λ (l : History). HasPair (id.session, id.request) l) (append_assoc earlier (e ∷ []) (take ts h))
    (ids_after m (earlier ++ e ∷ []) h (applied e.writes ds) (entry_known m earlier e ds all (apart earlier h e once) runs.0) runs.1
    (subst HasDistinctPairs (sym (append_assoc earlier (e ∷ []) h)) once) ts id d there)

pub ids_have_pairs : IdsHavePairs
ids_have_pairs m h l ts id d there = ids_after m [] h [] (λ id d e. absurd (some_none d (sym e))) l.runs l.once ts id d there
