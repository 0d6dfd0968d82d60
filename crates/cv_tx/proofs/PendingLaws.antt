-- The pending writes of some puts do what the puts do.
use Rattle.std.proofs.Common.{◌≡◌, Bool, true, false, cond, List, [], ◌∷◌, ◌++◌, Option, Some, None, refl, sym, ap, ◌∙◌, subst, append_assoc, append-nil}
use Rattle.std.specs.Prelude.{◌||◌, filter, map, is_some, IfSome}
use Rattle.std.proofs.lemmas.Bool.{or_parts, or_left, or_right}
use Rattle.std.proofs.lemmas.List.Elements.{filter-append}
use Rattle.cv_values.specs.IdLaws.{IsId}
use Rattle.cv_values.specs.declared.doc.Doc.{Doc}
use Rattle.cv_values.specs.declared.ids.DocId.{DocId}
use Rattle.cv_keys.specs.Documents.{index_at}
use Rattle.cv_keys.specs.Places.{PlaceInterval}
use Rattle.cv_keys.specs.declared.schema.Index.{Index}
use Rattle.cv_keys.specs.declared.write.Write.{Write}
use Rattle.fn_tree.specs.Course.{get_doc, scan_rows}
use Rattle.fn_tree.specs.Documents.{Docs, same_id, doc_of, with_doc, applied}
use Rattle.fn_tree.specs.Rows.{rows_by, is_within, rows_in, rows_at}
use Rattle.fn_tree.specs.Run.{with_puts, puts_to, unless_gone, writes_to}
use Rattle.fn_tree.specs.Scan.{Answer, found, id_interval, scan_answer}
use Rattle.fn_tree.specs.Schemas.{schema_of}
use Rattle.fn_tree.specs.SyntaxTree.{TableTree}
use Rattle.fn_tree.specs.declared.entry.Reply.TheVariants.{Value, Failed}
use Rattle.fn_tree.specs.declared.stop.Put.{Put}
use Rattle.fn_tree.proofs.DocumentLemmas.{same_id_is, same_id_itself, doc_of-with_doc, doc_of-with_doc_itself}
use Rattle.fn_tree.proofs.RowsUnderPuts.{rows-with_doc}
use Rattle.cv_tx.specs.Pending.{placed, pending_after, AreTrue}
use Rattle.cv_tx.specs.PutsLaid.{IsTold, AreTold, PendingIsTrue, PendingIsSeen, PendingIsWritten}
use Rattle.cv_tx.proofs.PlacesApart.{TellsIds, index_tells}
use Rattle.cv_tx.proofs.Swapped.{both_answers, set_again, set_swap}

-- ---- the ids of pending writes

abbrev among : DocId → List Write → Bool
among id [] = false
among id (w ∷ ws) = same_id id w.id || among id ws

other_way : (a b : DocId) → same_id a b ≡ false → same_id b a ≡ false
other_way a b e = go (same_id b a) refl
  where
    go : (c : Bool) → same_id b a ≡ c → c ≡ false
    go true s = both_answers (same_id a b) (ap (same_id a) (same_id_is b a s) ∙ same_id_itself a) e
    go false s = refl

two_or : (b c : Bool) → b || c ≡ b || (b || c)
two_or true c = refl
two_or false c = refl

or_swap : (a b c : Bool) → a || (b || c) ≡ b || (a || c)
or_swap true true c = refl
or_swap true false c = refl
or_swap false b c = refl

among_placed : (id : DocId) (p : Put) (ws : List Write) → among id (placed p ws) ≡ same_id id p.id || among id ws
among_placed id p [] = refl
among_placed id p (w ∷ ws) = go (same_id p.id w.id) refl (among_placed id p ws)
  where
    go : (b : Bool) → same_id p.id w.id ≡ b → among id (placed p ws) ≡ same_id id p.id || among id ws
        → among id (cond b (record w { new = p.new } ∷ ws) (w ∷ placed p ws)) ≡ same_id id p.id || (same_id id w.id || among id ws)
    go true s ih =
        two_or (same_id id w.id) (among id ws) ∙ ap (λ j. same_id id j || (same_id id w.id || among id ws)) (sym (same_id_is p.id w.id s))
    go false s ih = ap (λ c. same_id id w.id || c) ih ∙ or_swap (same_id id w.id) (same_id id p.id) (among id ws)

-- an id that isn't among these is none that is
differs : (id other : DocId) (ws : List Write) → among id ws ≡ true → among other ws ≡ false → same_id id other ≡ false
differs id other ws e f = go (same_id id other) refl
  where
    go : (b : Bool) → same_id id other ≡ b → b ≡ false
    go true s = both_answers (among id ws) e (ap (λ j. among j ws) (same_id_is id other s) ∙ f)
    go false s = refl

-- ---- the writes tell the documents of the snapshot

record IsGood (ds : Docs) (w : Write) : Type 0 where
  old : w.old ≡ doc_of w.id ds
  own : IfSome w.new (λ d. d.id ≡ w.id)
  fits : IsId w.id

abbrev AreGood : Docs → List Write → Type 0
AreGood ds [] = Unit {0}
AreGood ds (w ∷ ws) = IsGood ds w × (among w.id ws ≡ false) × AreGood ds ws

-- the documents of other ids are those of the snapshot
abbrev Apart : (ds now : Docs) → List Write → Type 0
Apart ds now ws = (id : DocId) → among id ws ≡ false → doc_of id now ≡ doc_of id ds

placed_good : (ds : Docs) (p : Put) (ws : List Write) → IsId p.id → IfSome p.new (λ d. d.id ≡ p.id) → (among p.id ws ≡ false → p.old ≡ doc_of p.id ds)
    → AreGood ds ws → AreGood ds (placed p ws)
placed_good ds p [] fits own old k = (record { old = old refl; own = own; fits = fits }, refl, tt)
placed_good ds p (w ∷ ws) fits own old k = go (same_id p.id w.id) refl (λ o. placed_good ds p ws fits own o k.2) old
  where
    go : (b : Bool) → same_id p.id w.id ≡ b → ((among p.id ws ≡ false → p.old ≡ doc_of p.id ds) → AreGood ds (placed p ws)) → (b || among p.id ws ≡ false → p.old ≡ doc_of p.id ds)
        → AreGood ds (cond b (record w { new = p.new } ∷ ws) (w ∷ placed p ws))
    go true s ih o = (
      record { old = k.0.old; own = subst (λ j. IfSome p.new (λ d. d.id ≡ j)) (same_id_is p.id w.id s) own; fits = k.0.fits },
      k.1,
      k.2,
    )
    go false s ih o = (k.0, among_placed w.id p ws ∙ ap (λ b. b || among w.id ws) (other_way p.id w.id s) ∙ k.1, ih o)

apart_placed : (ds now : Docs) (p : Put) (ws : List Write) → IfSome p.new (λ d. d.id ≡ p.id) → Apart ds now ws → Apart ds (with_doc p.id p.new now) (placed p ws)
apart_placed ds now p ws own apart id e =
    let parts = or_parts (same_id id p.id) (among id ws) (sym (among_placed id p ws) ∙ e) in
    doc_of-with_doc id p.id p.new now own parts.0 ∙ apart id parts.1

put_good : (ds now : Docs) (p : Put) (ws : List Write) → IsTold now p → Apart ds now ws → AreGood ds ws → AreGood ds (placed p ws)
put_good ds now p ws told apart k = placed_good ds p ws told.fits told.own (λ e. told.there ∙ apart p.id e) k

end_good : (ds now : Docs) (ps : List Put) (ws : List Write) → AreTold now ps → Apart ds now ws → AreGood ds ws → AreGood ds (pending_after ws ps)
end_good ds now [] ws told apart k = k
end_good ds now (p ∷ ps) ws told apart k =
    end_good ds (with_doc p.id p.new now) ps (placed p ws) told.1 (apart_placed ds now p ws told.0.own apart) (put_good ds now p ws told.0 apart k)

good_true : (ws : List Write) (ds now : Docs) → AreGood ds ws → ((id : DocId) → among id ws ≡ true → doc_of id now ≡ doc_of id ds) → AreTrue now ws
good_true [] ds now k same = tt
good_true (w ∷ ws) ds now k same = (
  k.0.old ∙ sym (same w.id (or_left _ _ (same_id_itself w.id))),
  k.0.own,
  good_true ws ds (with_doc w.id w.new now) k.2
      (λ id e. doc_of-with_doc id w.id w.new now k.0.own (differs id w.id ws e k.1) ∙ same id (or_right _ _ e)),
)

pub pending_is_true : PendingIsTrue
pending_is_true ds puts told = good_true (pending_after [] puts) ds ds (end_good ds ds puts [] told (λ id e. refl) tt) (λ id e. refl)

-- ---- the rows

module _ (index : Index) (test : Doc → Bool) (tells : TellsIds index) where
  rows-applied : (ws : List Write) (d e : Docs) → rows_by index test d ≡ rows_by index test e → rows_by index test (applied ws d) ≡ rows_by index test (applied ws e)
  rows-applied [] d e h = h
  rows-applied (w ∷ ws) d e h = rows-applied ws (with_doc w.id w.new d) (with_doc w.id w.new e) (rows-with_doc index test w.id w.new d e h)

  rows-puts : (ps : List Put) (d e : Docs) → rows_by index test d ≡ rows_by index test e → rows_by index test (with_puts ps d) ≡ rows_by index test (with_puts ps e)
  rows-puts [] d e h = h
  rows-puts (p ∷ ps) d e h = rows-puts ps (with_doc p.id p.new d) (with_doc p.id p.new e) (rows-with_doc index test p.id p.new d e h)

  -- a document of another id is set before the writes or after them
  past : (base : Docs) (id : DocId) (new : Option Doc) (ws : List Write) (ds : Docs) → among id ws ≡ false → IsId id → IfSome new (λ d. d.id ≡ id) → AreGood base ws
      → rows_by index test (with_doc id new (applied ws ds)) ≡ rows_by index test (applied ws (with_doc id new ds))
  past base id new [] ds e fits own k = refl
  past base id new (w ∷ ws) ds e fits own k =
      let parts = or_parts (same_id id w.id) (among id ws) e in
      past base id new ws (with_doc w.id w.new ds) parts.1 fits own k.2
      ∙ rows-applied ws (with_doc id new (with_doc w.id w.new ds)) (with_doc w.id w.new (with_doc id new ds))
      (set_swap index test tells id w.id new w.new ds fits k.0.fits parts.0 (other_way id w.id parts.0) own k.0.own)

  put_placed : (base : Docs) (p : Put) (ws : List Write) (ds : Docs) → IsId p.id → IfSome p.new (λ d. d.id ≡ p.id) → AreGood base ws
      → rows_by index test (with_doc p.id p.new (applied ws ds)) ≡ rows_by index test (applied (placed p ws) ds)
  put_placed base p [] ds fits own k = refl
  put_placed base p (w ∷ ws) ds fits own k = go (same_id p.id w.id) refl (put_placed base p ws (with_doc w.id w.new ds) fits own k.2)
    where
      go : (b : Bool) → same_id p.id w.id ≡ b
          → rows_by index test (with_doc p.id p.new (applied ws (with_doc w.id w.new ds))) ≡ rows_by index test (applied (placed p ws) (with_doc w.id w.new ds))
          → rows_by index test (with_doc p.id p.new (applied ws (with_doc w.id w.new ds))) ≡ rows_by index test (applied (cond b (record w { new = p.new } ∷ ws) (w ∷ placed p ws)) ds)
      go true s ih =
          let same : p.id ≡ w.id = same_id_is p.id w.id s in
          past base p.id p.new ws (with_doc w.id w.new ds) (ap (λ j. among j ws) same ∙ k.1) fits own k.2
          ∙ ap (λ d. rows_by index test (applied ws d)) (ap (λ j. with_doc j p.new (with_doc w.id w.new ds)) same ∙ set_again w.id p.new w.new ds k.0.own)
      go false s ih = ih

  rows_seen : (ds now : Docs) (ps : List Put) (ws : List Write) → AreTold now ps → Apart ds now ws → AreGood ds ws
      → rows_by index test (with_puts ps (applied ws ds)) ≡ rows_by index test (applied (pending_after ws ps) ds)
  rows_seen ds now [] ws told apart k = refl
  rows_seen ds now (p ∷ ps) ws told apart k =
      rows-puts ps (with_doc p.id p.new (applied ws ds)) (applied (placed p ws) ds) (put_placed ds p ws ds told.0.fits told.0.own k)
      ∙ rows_seen ds (with_doc p.id p.new now) ps (placed p ws) told.1 (apart_placed ds now p ws told.0.own apart) (put_good ds now p ws told.0 apart k)

same_rows : (tables : List TableTree) (ds : Docs) (puts : List Put) → AreTold ds puts → (i : PlaceInterval)
    → rows_at (schema_of tables) i (applied (pending_after [] puts) ds) ≡ rows_at (schema_of tables) i (with_puts puts ds)
same_rows tables ds puts told i = go (index_at (schema_of tables) i.table i.index) refl
  where
    go : (x : Option Index) → index_at (schema_of tables) i.table i.index ≡ x → rows_in x i (applied (pending_after [] puts) ds) ≡ rows_in x i (with_puts puts ds)
    go None e = refl
    go (Some index) e = sym (rows_seen index (is_within index i) (index_tells tables i.table i.index index e) ds ds puts [] told (λ id f. refl) tt)

pub pending_is_seen : PendingIsSeen
pending_is_seen tables ds puts told (get_doc id left) =
    ap (λ r. let a : Answer = record { docs = found (doc_of id r); consumed = id_interval id } in a) (same_rows tables ds puts told (id_interval id))
pending_is_seen tables ds puts told (scan_rows i desc limit left) =
    ap (λ r. scan_answer (index_at (schema_of tables) i.table i.index) r i desc limit left) (same_rows tables ds puts told i)

-- ---- the writes in the end

abbrev final : Docs → Write → Write
final after w = record w { new = doc_of w.id after }

abbrev lives : Write → Bool
lives w = is_some w.old || is_some w.new

-- each write has the document that is there now
abbrev News : Docs → List Write → Type 0
News now [] = Unit {0}
News now (w ∷ ws) = (w.new ≡ doc_of w.id now) × News now ws

news_final : (now : Docs) (ws : List Write) → News now ws → map (final now) ws ≡ ws
news_final now [] k = refl
news_final now (w ∷ ws) k = ap (λ n. record w { new = n } ∷ map (final now) ws) (sym k.0) ∙ ap (λ l. w ∷ l) (news_final now ws k.1)

news_stay : (now : Docs) (p : Put) (ws : List Write) → IfSome p.new (λ d. d.id ≡ p.id) → among p.id ws ≡ false → News now ws → News (with_doc p.id p.new now) ws
news_stay now p [] own e k = tt
news_stay now p (w ∷ ws) own e k =
    let parts = or_parts (same_id p.id w.id) (among p.id ws) e in
    (k.0 ∙ sym (doc_of-with_doc w.id p.id p.new now own (other_way p.id w.id parts.0)), news_stay now p ws own parts.1 k.1)

news_placed : (ds now : Docs) (p : Put) (ws : List Write) → IfSome p.new (λ d. d.id ≡ p.id) → AreGood ds ws → News now ws → News (with_doc p.id p.new now) (placed p ws)
news_placed ds now p [] own g k = (sym (doc_of-with_doc_itself p.id p.new now own), tt)
news_placed ds now p (w ∷ ws) own g k = go (same_id p.id w.id) refl (news_placed ds now p ws own g.2 k.1)
  where
    go : (b : Bool) → same_id p.id w.id ≡ b → News (with_doc p.id p.new now) (placed p ws) → News (with_doc p.id p.new now) (cond b (record w { new = p.new } ∷ ws) (w ∷ placed p ws))
    go true s ih =
        let same : p.id ≡ w.id = same_id_is p.id w.id s in (
          sym (ap (λ j. doc_of j (with_doc p.id p.new now)) (sym same) ∙ doc_of-with_doc_itself p.id p.new now own),
          news_stay now p ws own (ap (λ j. among j ws) same ∙ g.1) k.1,
        )
    go false s ih = (k.0 ∙ sym (doc_of-with_doc w.id p.id p.new now own (other_way p.id w.id s)), ih)

final_kept : (after : Docs) (p : Put) (ws : List Write) → among p.id ws ≡ true → map (final after) (placed p ws) ≡ map (final after) ws
final_kept after p [] e = cc
final_kept after p (w ∷ ws) e = go (same_id p.id w.id) e (final_kept after p ws)
  where
    go : (b : Bool) → b || among p.id ws ≡ true → (among p.id ws ≡ true → map (final after) (placed p ws) ≡ map (final after) ws)
        → map (final after) (cond b (record w { new = p.new } ∷ ws) (w ∷ placed p ws)) ≡ final after w ∷ map (final after) ws
    go true h ih = refl
    go false h ih = ap (λ l. final after w ∷ l) (ih h)

-- the write of a first put
abbrev first_write : Put → Write
first_write p = record { id = p.id; old = p.old; new = p.new }

final_more : (after : Docs) (p : Put) (ws : List Write) → among p.id ws ≡ false → map (final after) (placed p ws) ≡ map (final after) ws ++ final after (first_write p) ∷ []
final_more after p [] e = refl
final_more after p (w ∷ ws) e = go (same_id p.id w.id) e (final_more after p ws)
  where
    go : (b : Bool) → b || among p.id ws ≡ false → (among p.id ws ≡ false → map (final after) (placed p ws) ≡ map (final after) ws ++ final after (first_write p) ∷ [])
        → map (final after) (cond b (record w { new = p.new } ∷ ws) (w ∷ placed p ws)) ≡ final after w ∷ (map (final after) ws ++ final after (first_write p) ∷ [])
    go true h ih = cc
    go false h ih = ap (λ l. final after w ∷ l) (ih h)

one_more : (x : Write) (rest : List Write) → filter lives (x ∷ []) ++ rest ≡ unless_gone x rest
one_more x rest = go (lives x)
  where
    go : (b : Bool) → cond b (x ∷ []) [] ++ rest ≡ cond b (x ∷ rest) rest
    go true = refl
    go false = refl

written_are : (ds now : Docs) (ps earlier : List Put) (ws : List Write) → AreTold now ps → Apart ds now ws → AreGood ds ws → News now ws
    → ((id : DocId) → puts_to id earlier ≡ among id ws)
    → filter lives (pending_after ws ps) ≡ filter lives (map (final (with_puts ps now)) ws) ++ writes_to ds (with_puts ps now) earlier ps
written_are ds now [] earlier ws told apart g k those = ap (filter lives) (sym (news_final now ws k)) ∙ sym (append-nil (filter lives (map (final now) ws)))
written_are ds now (p ∷ ps) earlier ws told apart g k those =
    written_are ds (with_doc p.id p.new now) ps (p ∷ earlier) (placed p ws) told.1 (apart_placed ds now p ws told.0.own apart) (put_good ds now p ws told.0 apart g)
    (news_placed ds now p ws told.0.own g k) (λ id. ap (λ b. same_id id p.id || b) (those id) ∙ sym (among_placed id p ws))
    ∙ go (among p.id ws) refl
  where
    after : Docs
    after = with_puts ps (with_doc p.id p.new now)

    rest : List Write
    rest = writes_to ds after (p ∷ earlier) ps

    x : Write
    x = record { id = p.id; old = doc_of p.id ds; new = doc_of p.id after }

    go : (b : Bool) → among p.id ws ≡ b
        → filter lives (map (final after) (placed p ws)) ++ rest ≡ filter lives (map (final after) ws) ++ cond (puts_to p.id earlier) rest (unless_gone x rest)
    go true e =
        ap (λ l. filter lives l ++ rest) (final_kept after p ws e)
        ∙ ap (λ b. filter lives (map (final after) ws) ++ cond b rest (unless_gone x rest)) (sym (those p.id ∙ e))
    go false e =
        ap (λ l. filter lives l ++ rest) (final_more after p ws e)
        ∙ ap (λ o. filter lives (map (final after) ws ++ record { id = p.id; old = o; new = doc_of p.id after } ∷ []) ++ rest) (told.0.there ∙ apart p.id e)
        ∙ ap (λ l. l ++ rest) (filter-append lives (map (final after) ws) (x ∷ []))
        ∙ append_assoc (filter lives (map (final after) ws)) (filter lives (x ∷ [])) rest
        ∙ ap (λ l. filter lives (map (final after) ws) ++ l) (one_more x rest)
        ∙ ap (λ b. filter lives (map (final after) ws) ++ cond b rest (unless_gone x rest)) (sym (those p.id ∙ e))

pub pending_is_written : PendingIsWritten
pending_is_written ds puts told (Value v) = written_are ds ds puts [] [] told (λ id e. refl) tt tt (λ id. refl)
pending_is_written ds puts told (Failed why) = refl
