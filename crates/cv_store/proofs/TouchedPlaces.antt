-- Touch by key bytes is touch by places, and where there is none nothing is touched.
use Rattle.std.proofs.Common.{◌≡◌, ℕ, zero, suc, ◌+◌, Bool, true, false, ◌&&◌, ◌||◌, cond, List, [], ◌∷◌, map, drop, Option, Some, None, refl, sym, ap, ◌∙◌, subst, arith}
use Rattle.std.specs.Prelude.{◌==◌, slice_get}
use Rattle.std.specs.List.{AllByRecursion, position_from}
use Rattle.std.specs.Option.{option_or}
use Rattle.std.proofs.lemmas.Bool.{eqb-true, eq-eqb}
use Rattle.cv_values.specs.declared.doc.Doc.{Doc}
use Rattle.cv_keys.specs.Documents.{place, index_at, indexes_of}
use Rattle.cv_keys.specs.Intervals.{in_bytes}
use Rattle.cv_keys.specs.KeyOrder.{PlaceInRange, EndInRange}
use Rattle.cv_keys.specs.Places.{PlaceInterval, lies_in}
use Rattle.cv_keys.specs.Touch.{is_in, touches_places}
use Rattle.cv_keys.specs.declared.schema.Index.{Index}
use Rattle.cv_keys.specs.declared.schema.Schema.{Schema}
use Rattle.cv_keys.specs.declared.write.Write.{Write}
use Rattle.cv_keys.proofs.ItemCmp.{intervals_hold_by_keys}
use Rattle.fn_tree.specs.CommitLaws.{TouchesNone}
use Rattle.fn_tree.specs.History.{Entry, History}
use Rattle.cv_store.specs.FirstTouch.{by_key, by_place, index_touch, doc_touch, write_touch, writes_touch, entries_touch, first_touch, first_touch_places}
use Rattle.cv_store.specs.PlaceLaws.{TouchesGoByPlaces, NoneIsUntouched}
use Rattle.cv_store.specs.Ranges.{DocsInRange, AreInRange}
use Rattle.cv_store.specs.Reads.{EndsInRange}
use Rattle.cv_store.specs.declared.conflict.Conflict.{Conflict}

-- ---- by key bytes and by places

same_test : (table k : ℕ) (x : Index) (d : Doc) (i : PlaceInterval) → PlaceInRange (place d x) → EndInRange i.lo → EndInRange i.hi
    → by_key table k x d (in_bytes i) ≡ by_place table k x d i
same_test table k x d i h lo hi = ap (λ b. (i.table == table) && (i.index == k) && b) (sym (intervals_hold_by_keys (place d x) i h lo hi))

same_position : (table k : ℕ) (x : Index) (d : Doc) (n : ℕ) (reads : List PlaceInterval) → PlaceInRange (place d x) → EndsInRange reads
    → position_from (by_key table k x d) n (map in_bytes reads) ≡ position_from (by_place table k x d) n reads
same_position table k x d n [] h r = refl
same_position table k x d n (i ∷ reads) h r =
    ap (λ b. cond b (Some n) (position_from (by_key table k x d) (n + 1) (map in_bytes reads))) (same_test table k x d i h r.0.0 r.0.1)
    ∙ ap (cond (by_place table k x d i) (Some n)) (same_position table k x d (n + 1) reads h r.1)

-- the document's places in these indexes are in range
abbrev pub AllPlaces : Doc → List Index → Type 0
AllPlaces d xs = AllByRecursion (λ x. PlaceInRange (place d x)) xs

pub old_places : (d : Doc) (new : Option Doc) (xs : List Index) → DocsInRange (Some d) new xs → AllPlaces d xs
old_places d new [] h = tt
old_places d new (x ∷ xs) h = (h.0.0, old_places d new xs h.1)

pub new_places : (old : Option Doc) (d : Doc) (xs : List Index) → DocsInRange old (Some d) xs → AllPlaces d xs
new_places old d [] h = tt
new_places old d (x ∷ xs) h = (h.0.1, new_places old d xs h.1)

-- the touch of a range, if there is one, or else another
abbrev told : (ts write : ℕ) → (fresh : Bool) → (table index : ℕ) → Option ℕ → Option Conflict → Option Conflict
told ts write fresh table index None rest = rest
told ts write fresh table index (Some range) rest = Some (record { ts = ts; write = write; fresh = fresh; table = table; index = index; range = range })

told_is : (ts write : ℕ) (fresh : Bool) (table index : ℕ) (o : Option ℕ) (rest : Option Conflict)
    → ◌≡◌ {A = Option Conflict} (elim o [ Some range ↦ Some (record { ts = ts; write = write; fresh = fresh; table = table; index = index; range = range }) | None ↦ rest ]) (told ts write fresh table index o rest)
told_is ts write fresh table index None rest = refl
told_is ts write fresh table index (Some range) rest = refl

module _ (reads : List PlaceInterval) (ends : EndsInRange reads) where
  same_index : (ts write : ℕ) (fresh : Bool) (table : ℕ) (d : Doc) (k : ℕ) (xs : List Index) → AllPlaces d xs
      → index_touch by_key (map in_bytes reads) ts write fresh table d k xs ≡ index_touch by_place reads ts write fresh table d k xs
  same_index ts write fresh table d k [] h = refl
  same_index ts write fresh table d k (x ∷ xs) h =
      told_is ts write fresh table k (position_from (by_key table k x d) 0 (map in_bytes reads)) (index_touch by_key (map in_bytes reads) ts write fresh table d (k + 1) xs)
      ∙ ap (λ o. told ts write fresh table k o (index_touch by_key (map in_bytes reads) ts write fresh table d (k + 1) xs)) (same_position table k x d 0 reads h.0 ends)
      ∙ ap (told ts write fresh table k (position_from (by_place table k x d) 0 reads)) (same_index ts write fresh table d (k + 1) xs h.1)
      ∙ sym (told_is ts write fresh table k (position_from (by_place table k x d) 0 reads) (index_touch by_place reads ts write fresh table d (k + 1) xs))

  module _ (schema : Schema) where
    same_old : (ts write table : ℕ) (old new : Option Doc) → DocsInRange old new (indexes_of schema table)
        → doc_touch schema by_key (map in_bytes reads) ts write false table old ≡ doc_touch schema by_place reads ts write false table old
    same_old ts write table None new h = refl
    same_old ts write table (Some d) new h = same_index ts write false table d 0 (indexes_of schema table) (old_places d new (indexes_of schema table) h)

    same_new : (ts write table : ℕ) (old new : Option Doc) → DocsInRange old new (indexes_of schema table)
        → doc_touch schema by_key (map in_bytes reads) ts write true table new ≡ doc_touch schema by_place reads ts write true table new
    same_new ts write table old None h = refl
    same_new ts write table old (Some d) h = same_index ts write true table d 0 (indexes_of schema table) (new_places old d (indexes_of schema table) h)

    same_writes : (ts n : ℕ) (ws : List Write) → AllByRecursion (λ w. DocsInRange w.old w.new (indexes_of schema w.id.table)) ws
        → writes_touch schema by_key (map in_bytes reads) ts n ws ≡ writes_touch schema by_place reads ts n ws
    same_writes ts n [] h = refl
    same_writes ts n (w ∷ ws) h =
        ap (λ o. option_or (option_or o (doc_touch schema by_key (map in_bytes reads) ts n true w.id.table w.new)) (writes_touch schema by_key (map in_bytes reads) ts (n + 1) ws))
        (same_old ts n w.id.table w.old w.new h.0)
        ∙ ap (λ o. option_or (option_or (doc_touch schema by_place reads ts n false w.id.table w.old) o) (writes_touch schema by_key (map in_bytes reads) ts (n + 1) ws))
        (same_new ts n w.id.table w.old w.new h.0)
        ∙ ap (option_or (write_touch schema by_place reads ts n w)) (same_writes ts (n + 1) ws h.1)

    same_entries : (ts : ℕ) (h : History) → AreInRange schema h
        → entries_touch schema by_key (map in_bytes reads) ts h ≡ entries_touch schema by_place reads ts h
    same_entries ts [] r = refl
    same_entries ts (e ∷ h) r =
        ap (λ o. option_or o (entries_touch schema by_key (map in_bytes reads) (ts + 1) h)) (same_writes (ts + 1) 0 e.writes r.0)
        ∙ ap (option_or (writes_touch schema by_place reads (ts + 1) 0 e.writes)) (same_entries (ts + 1) h r.1)

all_drop : {A : Type 0} (P : A → Type 0) (n : ℕ) (xs : List A) → AllByRecursion P xs → AllByRecursion P (drop n xs)
all_drop P zero xs h = h
all_drop P (suc n) [] h = tt
all_drop P (suc n) (x ∷ xs) h = all_drop P n xs h.1

pub touches_go_by_places : TouchesGoByPlaces
unfolding first_touch first_touch_places
touches_go_by_places schema reads h s ends r =
    same_entries reads ends schema s (drop s h) (all_drop (λ (e : Entry). AllByRecursion (λ w. DocsInRange w.old w.new (indexes_of schema w.id.table)) e.writes) s h r)

-- ---- no first touch

or_none : (a b : Option Conflict) → option_or a b ≡ None → (a ≡ None) × (b ≡ None)
or_none None b e = (refl, e)
or_none (Some a) b e = cc

position_none : (t : PlaceInterval → Bool) (n : ℕ) (reads : List PlaceInterval) → position_from t n reads ≡ None → AllByRecursion (λ i. t i ≡ false) reads
position_none t n [] e = tt
position_none t n (i ∷ reads) e = go (t i) refl (position_none t (n + 1) reads) e
  where
    go : (b : Bool) → t i ≡ b → (position_from t (n + 1) reads ≡ None → AllByRecursion (λ j. t j ≡ false) reads)
        → cond b (Some n) (position_from t (n + 1) reads) ≡ None → (t i ≡ false) × AllByRecursion (λ j. t j ≡ false) reads
    go true p ih q = cc
    go false p ih q = (p, ih q)

module _ (reads : List PlaceInterval) (ts write : ℕ) (fresh : Bool) (table : ℕ) (d : Doc) where
  -- what no index tells of, in the index of each number
  index_none : (k : ℕ) (xs : List Index) → index_touch by_place reads ts write fresh table d k xs ≡ None
      → (j n : ℕ) (x : Index) → n ≡ k + j → slice_get xs j ≡ Some x → AllByRecursion (λ i. by_place table n x d i ≡ false) reads
  index_none k [] e j n x p at = cc
  index_none k (y ∷ xs) e j n x p at = go (position_from (by_place table k y d) 0 reads) refl (index_none (k + 1) xs) e j p at
    where
      here : (m : ℕ) → n ≡ k + m → m ≡ 0 → y ≡ x → position_from (by_place table k y d) 0 reads ≡ None → AllByRecursion (λ i. by_place table n x d i ≡ false) reads
      here m p z s q =
          let same : n ≡ k = omega (arith, p, z) in
          subst (λ (a : ℕ). AllByRecursion (λ i. by_place table a x d i ≡ false) reads) (sym same)
          (subst (λ (a : Index). AllByRecursion (λ i. by_place table k a d i ≡ false) reads) s (position_none (by_place table k y d) 0 reads q))

      go : (o : Option ℕ) → position_from (by_place table k y d) 0 reads ≡ o
          → (index_touch by_place reads ts write fresh table d (k + 1) xs ≡ None → (j n : ℕ) (x : Index) → n ≡ (k + 1) + j → slice_get xs j ≡ Some x → AllByRecursion (λ i. by_place table n x d i ≡ false) reads)
          → ◌≡◌ {A = Option Conflict} (elim o [ Some range ↦ Some (record { ts = ts; write = write; fresh = fresh; table = table; index = k; range = range }) | None ↦ index_touch by_place reads ts write fresh table d (k + 1) xs ]) None
          → (j : ℕ) → n ≡ k + j → slice_get (y ∷ xs) j ≡ Some x → AllByRecursion (λ i. by_place table n x d i ≡ false) reads
      go (Some range) q ih e j p at = cc
      go None q ih e zero p at = here 0 p refl (let s : y ≡ x = cc in s) q
      go None q ih e (suc j) p at = ih e j n x (omega (arith, p)) at

-- in the index of each number the document, if any, lies in none of the intervals
abbrev Misses : (table : ℕ) → Option Doc → List Index → PlaceInterval → Type 0
Misses table None xs i = Unit {0}
Misses table (Some d) xs i = (n : ℕ) (x : Index) → slice_get xs n ≡ Some x → by_place table n x d i ≡ false

each_interval : (table : ℕ) (d : Doc) (xs : List Index) (reads : List PlaceInterval)
    → ((n : ℕ) (x : Index) → slice_get xs n ≡ Some x → AllByRecursion (λ i. by_place table n x d i ≡ false) reads) → AllByRecursion (Misses table (Some d) xs) reads
each_interval table d xs [] h = tt
each_interval table d xs (i ∷ reads) h = ((λ n x at. (h n x at).0), each_interval table d xs reads (λ n x at. (h n x at).1))

all_unit : (table : ℕ) (xs : List Index) (reads : List PlaceInterval) → AllByRecursion (Misses table None xs) reads
all_unit table xs [] = tt
all_unit table xs (i ∷ reads) = (tt, all_unit table xs reads)

module _ (schema : Schema) where
  doc_none : (reads : List PlaceInterval) (ts write : ℕ) (fresh : Bool) (table : ℕ) (d : Option Doc) → doc_touch schema by_place reads ts write fresh table d ≡ None
      → AllByRecursion (Misses table d (indexes_of schema table)) reads
  doc_none reads ts write fresh table None e = all_unit table (indexes_of schema table) reads
  doc_none reads ts write fresh table (Some d) e =
      each_interval table d (indexes_of schema table) reads
      (λ n x at. index_none reads ts write fresh table d 0 (indexes_of schema table) e n n x (omega arith) at)

  -- it isn't in the interval by its index
  not_in : (table : ℕ) (d : Option Doc) (i : PlaceInterval) (x : Index) → table ≡ i.table → slice_get (indexes_of schema table) i.index ≡ Some x
      → Misses table d (indexes_of schema table) i → is_in (Some x) i d ≡ false
  not_in table None i x t at h = refl
  not_in table (Some d) i x t at h =
      ap (λ b. b && lies_in (place d x) i) (sym (both (i.table == table) (i.index == i.index) (eq-eqb i.table table (sym t)) (eq-eqb i.index i.index refl)))
      ∙ h i.index x at
    where
      both : (a b : Bool) → a ≡ true → b ≡ true → (a && b) ≡ true
      both true true p q = refl
      both true false p q = cc
      both false b p q = cc

  untouched : (w : Write) (i : PlaceInterval) → Misses w.id.table w.old (indexes_of schema w.id.table) i → Misses w.id.table w.new (indexes_of schema w.id.table) i
      → touches_places schema w i ≡ false
  untouched w i old new = go (w.id.table == i.table) refl
    where
      in_index : (o : Option Index) → w.id.table ≡ i.table → slice_get (indexes_of schema w.id.table) i.index ≡ o → (is_in o i w.old || is_in o i w.new) ≡ false
      in_index None t at = refl
      in_index (Some x) t at = ap (λ b. b || is_in (Some x) i w.new) (not_in w.id.table w.old i x t at old) ∙ not_in w.id.table w.new i x t at new

      go : (b : Bool) → (w.id.table == i.table) ≡ b → (b && (is_in (index_at schema i.table i.index) i w.old || is_in (index_at schema i.table i.index) i w.new)) ≡ false
      go false p = refl
      go true p =
          let t : w.id.table ≡ i.table = eqb-true w.id.table i.table p in
          in_index (index_at schema i.table i.index) t
          (ap (λ (n : ℕ). slice_get (indexes_of schema n) i.index) t)

  both_miss : (w : Write) (reads : List PlaceInterval) → AllByRecursion (Misses w.id.table w.old (indexes_of schema w.id.table)) reads
      → AllByRecursion (Misses w.id.table w.new (indexes_of schema w.id.table)) reads → TouchesNone schema reads w
  both_miss w [] old new = tt
  both_miss w (i ∷ reads) old new = (untouched w i old.0 new.0, both_miss w reads old.1 new.1)

  writes_none : (reads : List PlaceInterval) (ts n : ℕ) (ws : List Write) → writes_touch schema by_place reads ts n ws ≡ None → AllByRecursion (TouchesNone schema reads) ws
  writes_none reads ts n [] e = tt
  writes_none reads ts n (w ∷ ws) e =
      let parts = or_none (write_touch schema by_place reads ts n w) (writes_touch schema by_place reads ts (n + 1) ws) e in
      let docs = or_none (doc_touch schema by_place reads ts n false w.id.table w.old) (doc_touch schema by_place reads ts n true w.id.table w.new) parts.0 in
      (both_miss w reads (doc_none reads ts n false w.id.table w.old docs.0) (doc_none reads ts n true w.id.table w.new docs.1), writes_none reads ts (n + 1) ws parts.1)

  entries_none : (reads : List PlaceInterval) (ts : ℕ) (h : History) → entries_touch schema by_place reads ts h ≡ None
      → AllByRecursion (λ e. AllByRecursion (TouchesNone schema reads) e.writes) h
  entries_none reads ts [] e = tt
  entries_none reads ts (x ∷ h) e =
      let parts = or_none (writes_touch schema by_place reads (ts + 1) 0 x.writes) (entries_touch schema by_place reads (ts + 1) h) e in
      (writes_none reads (ts + 1) 0 x.writes parts.0, entries_none reads (ts + 1) h parts.1)

pub none_is_untouched : NoneIsUntouched
unfolding first_touch_places
none_is_untouched schema reads h s e = entries_none schema reads s (drop s h) e
