-- Documents under their keys, where a key is set.
use Rattle.std.proofs.Common.{◌≡◌, ℕ, not, cond, List, [], ◌∷◌, Option, Some, None, refl, sym, ap, ◌∙◌, subst}
use Rattle.std.specs.Prelude.{filter, option_map, option_and_then, slice_get}
use Rattle.std.specs.BTreeMap.{insert_entry}
use Rattle.std.specs.Cmp.Lexicographic.{nat_list_cmp_total}
use Rattle.std.specs.List.{cons_option}
use Rattle.std.specs.Ordering.{is_eq, match_ordering, ordering_reverse}
use Rattle.std.specs.declared.cmp.Ordering.{Ordering}
use Rattle.std.specs.declared.cmp.Ordering.TheVariants.{Less, Equal, Greater}
use Rattle.std.proofs.lemmas.Map.Lookups.{exact_bytes}
use Rattle.cv_values.specs.Order.{text_cmp}
use Rattle.cv_values.specs.declared.doc.Doc.{Doc}
use Rattle.cv_docs.specs.History.{Current}
use Rattle.cv_core.specs.Kept.{Keyed, shown}

-- each key of the list is above k
abbrev pub AllAbove : {X : Type 0} → List ℕ → List (List ℕ × X) → Type 0
AllAbove k [] = Unit {0}
AllAbove k (p ∷ l) = (text_cmp k p.0 ≡ Less) × AllAbove k l

-- each key is below all that follow it
abbrev pub Ascending : {X : Type 0} → List (List ℕ × X) → Type 0
Ascending [] = Unit {0}
Ascending (p ∷ l) = AllAbove p.0 l × Ascending l

-- without the document of a key
abbrev pub dropped : List ℕ → Keyed → Keyed
dropped k l = filter (λ p. not (is_eq (text_cmp k p.0))) l

-- the documents, where the key has this one, or none
abbrev pub place_in : List ℕ → Option Doc → Keyed → Keyed
place_in k None l = dropped k l
place_in k (Some d) l = insert_entry text_cmp l k d

-- the document of a version
abbrev pub version_in : List Doc → Option ℕ → Option Doc
version_in docs v = option_and_then (λ n. slice_get docs n) v

abbrev one : List Doc → List ℕ × Option ℕ → Option (List ℕ × Doc)
one docs p = option_map (λ d. (p.0, d)) (version_in docs p.1)

above_lower : {X : Type 0} (k q : List ℕ) (l : List (List ℕ × X)) → text_cmp k q ≡ Less → AllAbove q l → AllAbove k l
above_lower k q [] e h = tt
above_lower k q (p ∷ l) e h = (nat_list_cmp_total.trans k q p.0 e h.0, above_lower k q l e h.1)

pub shown_above : (docs : List Doc) (k : List ℕ) (m : Current) → AllAbove k m → AllAbove k (shown docs m)
shown_above docs k [] h = tt
shown_above docs k (p ∷ m) h = go (version_in docs p.1) (shown_above docs k m h.1)
  where
    go : (o : Option Doc) → AllAbove k (shown docs m) → AllAbove k (cons_option (option_map (λ d. (p.0, d)) o) (shown docs m))
    go None ih = ih
    go (Some d) ih = (h.0, ih)

pub shown_ascending : (docs : List Doc) (m : Current) → Ascending m → Ascending (shown docs m)
shown_ascending docs [] h = tt
shown_ascending docs (p ∷ m) h = go (version_in docs p.1) (shown_ascending docs m h.1)
  where
    go : (o : Option Doc) → Ascending (shown docs m) → Ascending (cons_option (option_map (λ d. (p.0, d)) o) (shown docs m))
    go None ih = ih
    go (Some d) ih = (shown_above docs p.0 m h.0, ih)

insert_first : (k : List ℕ) (d : Doc) (l : Keyed) → AllAbove k l → insert_entry text_cmp l k d ≡ (k, d) ∷ l
insert_first k d [] h = refl
insert_first k d (p ∷ l) h = ap (λ o. match_ordering o ((k, d) ∷ p ∷ l) ((p.0, d) ∷ l) (p ∷ insert_entry text_cmp l k d)) h.0

dropped_none : (k : List ℕ) (l : Keyed) → AllAbove k l → dropped k l ≡ l
dropped_none k [] h = refl
dropped_none k (p ∷ l) h = ap (λ o. cond (not (is_eq o)) (p ∷ dropped k l) (dropped k l)) h.0 ∙ ap (λ r. p ∷ r) (dropped_none k l h.1)

placed_first : (k : List ℕ) (o : Option Doc) (l : Keyed) → AllAbove k l → place_in k o l ≡ cons_option (option_map (λ d. (k, d)) o) l
placed_first k None l h = dropped_none k l h
placed_first k (Some d) l h = insert_first k d l h

-- at the key of the first one, and behind it
placed_here : (k : List ℕ) (o : Option Doc) (p : List ℕ × Doc) (l : Keyed) → text_cmp k p.0 ≡ Equal → AllAbove k l
    → place_in k o (p ∷ l) ≡ cons_option (option_map (λ d. (p.0, d)) o) l
placed_here k None p l e h = ap (λ c. cond (not (is_eq c)) (p ∷ dropped k l) (dropped k l)) e ∙ dropped_none k l h
placed_here k (Some d) p l e h = ap (λ c. match_ordering c ((k, d) ∷ p ∷ l) ((p.0, d) ∷ l) (p ∷ insert_entry text_cmp l k d)) e

placed_behind : (k : List ℕ) (o : Option Doc) (p : List ℕ × Doc) (l : Keyed) → text_cmp k p.0 ≡ Greater → place_in k o (p ∷ l) ≡ p ∷ place_in k o l
placed_behind k None p l e = ap (λ c. cond (not (is_eq c)) (p ∷ dropped k l) (dropped k l)) e
placed_behind k (Some d) p l e = ap (λ c. match_ordering c ((k, d) ∷ p ∷ l) ((p.0, d) ∷ l) (p ∷ insert_entry text_cmp l k d)) e

-- a version that is set shows its document, or none
module _ (docs : List Doc) (k : List ℕ) (v : Option ℕ) (o : Option Doc) (is : version_in docs v ≡ o) where
  shown_here : (p : List ℕ × Option ℕ) (m : Current) → text_cmp k p.0 ≡ Equal → AllAbove p.0 m
      → cons_option (option_map (λ d. (p.0, d)) (version_in docs v)) (shown docs m) ≡ place_in k o (cons_option (one docs p) (shown docs m))
  shown_here p m e h =
      ap (λ c. cons_option (option_map (λ d. (p.0, d)) c) (shown docs m)) is
      ∙ go (version_in docs p.1)
    where
      same : k ≡ p.0
      same = exact_bytes k p.0 e

      behind : AllAbove k (shown docs m)
      behind = subst (λ q. AllAbove q (shown docs m)) (sym same) (shown_above docs p.0 m h)

      go : (c : Option Doc) → cons_option (option_map (λ d. (p.0, d)) o) (shown docs m) ≡ place_in k o (cons_option (option_map (λ d. (p.0, d)) c) (shown docs m))
      go None = ap (λ q. cons_option (option_map (λ d. (q, d)) o) (shown docs m)) (sym same) ∙ sym (placed_first k o (shown docs m) behind)
      go (Some d) = sym (placed_here k o (p.0, d) (shown docs m) e behind)

  shown_behind : (p : List ℕ × Option ℕ) (m : Current) → text_cmp k p.0 ≡ Greater → shown docs (insert_entry text_cmp m k v) ≡ place_in k o (shown docs m)
      → cons_option (one docs p) (shown docs (insert_entry text_cmp m k v)) ≡ place_in k o (cons_option (one docs p) (shown docs m))
  shown_behind p m e ih = ap (cons_option (one docs p)) ih ∙ go (version_in docs p.1)
    where
      go : (c : Option Doc) → cons_option (option_map (λ d. (p.0, d)) c) (place_in k o (shown docs m)) ≡ place_in k o (cons_option (option_map (λ d. (p.0, d)) c) (shown docs m))
      go None = refl
      go (Some d) = sym (placed_behind k o (p.0, d) (shown docs m) e)

  shown_before : (p : List ℕ × Option ℕ) (m : Current) → text_cmp k p.0 ≡ Less → AllAbove p.0 m
      → shown docs ((k, v) ∷ p ∷ m) ≡ place_in k o (shown docs (p ∷ m))
  shown_before p m e h =
      let behind : AllAbove k (p ∷ m) = (e, above_lower k p.0 m e h) in
      ap (λ c. cons_option (option_map (λ d. (k, d)) c) (shown docs (p ∷ m))) is ∙ sym (placed_first k o (shown docs (p ∷ m)) (shown_above docs k (p ∷ m) behind))

  pub shown_set : (m : Current) → Ascending m → shown docs (insert_entry text_cmp m k v) ≡ place_in k o (shown docs m)
  shown_set [] h = ap (λ c. cons_option (option_map (λ d. (k, d)) c) []) is ∙ sym (placed_first k o [] tt)
  shown_set (p ∷ m) h = go (text_cmp k p.0) refl (shown_set m h.1)
    where
      go : (c : Ordering) → text_cmp k p.0 ≡ c → shown docs (insert_entry text_cmp m k v) ≡ place_in k o (shown docs m)
          → shown docs (match_ordering c ((k, v) ∷ p ∷ m) ((p.0, v) ∷ m) (p ∷ insert_entry text_cmp m k v)) ≡ place_in k o (shown docs (p ∷ m))
      go Less e ih = shown_before p m e h.0
      go Equal e ih = shown_here p m e h.0
      go Greater e ih = shown_behind p m e ih

-- a key that is set keeps the order
above_set : {X : Type 0} (q k : List ℕ) (v : X) (l : List (List ℕ × X)) → text_cmp q k ≡ Less → AllAbove q l → AllAbove q (insert_entry text_cmp l k v)
above_set q k v [] e h = (e, tt)
above_set {X = X} q k v (p ∷ l) e h = go (text_cmp k p.0) (above_set q k v l e h.1)
  where
    go : (c : Ordering) → AllAbove q (insert_entry text_cmp l k v) → AllAbove {X = X} q (match_ordering c ((k, v) ∷ p ∷ l) ((p.0, v) ∷ l) (p ∷ insert_entry text_cmp l k v))
    go Less ih = (e, h)
    go Equal ih = h
    go Greater ih = (h.0, ih)

pub ascending_set : {X : Type 0} (k : List ℕ) (v : X) (l : List (List ℕ × X)) → Ascending l → Ascending (insert_entry text_cmp l k v)
ascending_set k v [] h = (tt, tt)
ascending_set {X = X} k v (p ∷ l) h = go (text_cmp k p.0) refl (ascending_set k v l h.1)
  where
    go : (c : Ordering) → text_cmp k p.0 ≡ c → Ascending (insert_entry text_cmp l k v) → Ascending {X = X} (match_ordering c ((k, v) ∷ p ∷ l) ((p.0, v) ∷ l) (p ∷ insert_entry text_cmp l k v))
    go Less e ih = ((e, above_lower k p.0 l e h.0), h)
    go Equal e ih = h
    go Greater e ih = (above_set p.0 k v l (nat_list_cmp_total.antisymm p.0 k ∙ ap ordering_reverse e) h.0, ih)

-- what a key has doesn't matter where it is set
pub placed_again : (k : List ℕ) (d : Doc) (l : Keyed) → Ascending l → insert_entry text_cmp l k d ≡ insert_entry text_cmp (dropped k l) k d
placed_again k d [] h = refl
placed_again k d (p ∷ l) h = go (text_cmp k p.0) refl (placed_again k d l h.1)
  where
    go : (c : Ordering) → text_cmp k p.0 ≡ c → insert_entry text_cmp l k d ≡ insert_entry text_cmp (dropped k l) k d
        → insert_entry text_cmp (p ∷ l) k d ≡ insert_entry text_cmp (dropped k (p ∷ l)) k d
    go Less e ih = ap (λ r. insert_entry text_cmp r k d) (sym (dropped_none k (p ∷ l) (e, above_lower k p.0 l e h.0)))
    go Equal e ih =
        let same : k ≡ p.0 = exact_bytes k p.0 e in
        let behind : AllAbove k l = subst (λ q. AllAbove q l) (sym same) h.0 in
        placed_here k (Some d) p l e behind ∙ ap (λ q. (q, d) ∷ l) (sym same) ∙ sym (insert_first k d l behind)
        ∙ ap (λ r. insert_entry text_cmp r k d) (sym (placed_here k None p l e behind))
    go Greater e ih = placed_behind k (Some d) p l e ∙ ap (λ r. p ∷ r) ih ∙ sym (placed_behind k (Some d) p (dropped k l) e)
        ∙ ap (λ r. insert_entry text_cmp r k d) (sym (placed_behind k None p l e))
