-- Keys of documents: their order, and that different ids have different keys.
use Rattle.std.proofs.Common.{◌≡◌, ◌⊎◌, inl, inr, ℕ, zero, suc, List, [], ◌∷◌, ◌++◌, map, Some, None, refl, sym, ap, ◌∙◌, subst}
use Rattle.std.specs.Prelude.{codes, slice_get}
use Rattle.std.specs.Ordering.{ordering_then}
use Rattle.std.specs.declared.cmp.Ordering.{Ordering}
use Rattle.std.specs.declared.cmp.Ordering.TheVariants.{Less, Equal, Greater}
use Rattle.cv_values.specs.IdLaws.{IsId}
use Rattle.cv_values.specs.Ids.{id_text, read_id}
use Rattle.cv_values.specs.Order.{text_cmp, compare_items}
use Rattle.cv_values.specs.OrderLaws.{compare_exact}
use Rattle.cv_values.specs.Value.{string}
use Rattle.cv_values.specs.declared.doc.Doc.{Doc}
use Rattle.cv_values.specs.declared.ids.DocId.{DocId}
use Rattle.cv_values.proofs.IdTexts.{ids_are_read_back}
use Rattle.cv_keys.specs.Documents.{index_at, item_at, place}
use Rattle.cv_keys.specs.KeyOrder.{PlaceInRange}
use Rattle.cv_keys.specs.Places.{Item, Place, place_cmp}
use Rattle.cv_keys.specs.declared.schema.Index.{Index}
use Rattle.cv_keys.proofs.ItemCmp.{places_go_by_keys}
use Rattle.fn_tree.specs.Rows.{row_cmp}
use Rattle.fn_tree.specs.Schemas.{text_of, declared_index, declared_table, schema_of}
use Rattle.fn_tree.specs.SyntaxTree.{IndexTree, TableTree}
use Rattle.fn_tree.specs.declared.syntax.Named.{Named}
use Rattle.cv_core.specs.Changes.{doc_key}

-- ---- indexes have the id among their fields

abbrev pub HasId : List (List ℕ) → Type 0
HasId [] = ⊥
HasId (f ∷ fs) = (f ≡ codes "_id") ⊎ HasId fs

declared_has : (fs : List Named) (rest : List (List ℕ)) → HasId rest → HasId (map text_of fs ++ rest)
declared_has [] rest h = h
declared_has (f ∷ fs) rest h = inr (declared_has fs rest h)

declared_at : (is : List IndexTree) (k : ℕ) (x : Index) → slice_get (map declared_index is) k ≡ Some x → HasId x.fields
declared_at [] k x e = cc
declared_at (i ∷ is) zero x e =
    let same : declared_index i ≡ x = cc in
    subst (λ (y : Index). HasId y.fields) same (declared_has i.fields (codes "_creationTime" ∷ codes "_id" ∷ []) (inr (inl refl)))
declared_at (i ∷ is) (suc k) x e = declared_at is k x e

index_has : (t : TableTree) (k : ℕ) (x : Index) → slice_get (declared_table t).indexes k ≡ Some x → HasId x.fields
index_has t zero x e = let h : HasId (codes "_id" ∷ []) = inl refl in some_has h e
  where
    some_has : {y : Index} → HasId y.fields → Some y ≡ Some x → HasId x.fields
    some_has {y} h s = let same : y ≡ x = cc in subst (λ (z : Index). HasId z.fields) same h
index_has t (suc zero) x e = let h : HasId (codes "_creationTime" ∷ codes "_id" ∷ []) = inr (inl refl) in some_has h e
  where
    some_has : {y : Index} → HasId y.fields → Some y ≡ Some x → HasId x.fields
    some_has {y} h s = let same : y ≡ x = cc in subst (λ (z : Index). HasId z.fields) same h
index_has t (suc (suc k)) x e = declared_at t.indexes k x e

pub schema_has : (ts : List TableTree) (table index : ℕ) (x : Index) → index_at (schema_of ts) table index ≡ Some x → HasId x.fields
schema_has [] table index x e = cc
schema_has (t ∷ ts) zero index x e = index_has t index x e
schema_has (t ∷ ts) (suc table) index x e = schema_has ts table index x e

-- ---- places that are tied are the same

then_equal_parts : (a b : Ordering) → ordering_then a b ≡ Equal → (a ≡ Equal) × (b ≡ Equal)
then_equal_parts Less b e = cc
then_equal_parts Equal b e = (refl, e)
then_equal_parts Greater b e = cc

items_exact : (x y : Item) → compare_items x y ≡ Equal → x ≡ y
items_exact None None e = refl
items_exact None (Some w) e = cc
items_exact (Some v) None e = cc
items_exact (Some v) (Some w) e = ap Some (compare_exact v w e)

places_exact : (p q : Place) → place_cmp p q ≡ Equal → p ≡ q
places_exact [] [] e = refl
places_exact [] (y ∷ q) e = cc
places_exact (x ∷ p) [] e = cc
places_exact (x ∷ p) (y ∷ q) e =
    let parts = then_equal_parts (compare_items x y) (place_cmp p q) e in
    ap (λ (z : Item). z ∷ p) (items_exact x y parts.0) ∙ ap (λ (r : Place). y ∷ r) (places_exact p q parts.1)

same_item : (d e : Doc) (fs : List (List ℕ)) → HasId fs → map (item_at d) fs ≡ map (item_at e) fs → item_at d (codes "_id") ≡ item_at e (codes "_id")
same_item d e [] h s = absurd h
same_item d e (f ∷ fs) (inl i) s =
    let here : item_at d f ≡ item_at e f = cc in
    subst (λ (g : List ℕ). item_at d g ≡ item_at e g) i here
same_item d e (f ∷ fs) (inr h) s = let rest : map (item_at d) fs ≡ map (item_at e) fs = cc in same_item d e fs h rest

same_text : (a b : DocId) → IsId a → IsId b → id_text a ≡ id_text b → a ≡ b
same_text a b ha hb e =
    let back : Some a ≡ Some b = sym (ids_are_read_back a ha) ∙ ap read_id e ∙ ids_are_read_back b hb in cc

same_place : (x : Index) (d e : Doc) → HasId x.fields → IsId d.id → IsId e.id → place d x ≡ place e x → d.id ≡ e.id
same_place x d e h hd he s =
    let items : Some (string (id_text d.id)) ≡ Some (string (id_text e.id)) = same_item d e x.fields h s in
    let texts : id_text d.id ≡ id_text e.id = cc in
    same_text d.id e.id hd he texts

-- ---- keys

-- what the key order law and the id law ask of a document in an index
pub record Fits (x : Index) (d : Doc) : Type 0 where
  pub place : PlaceInRange (place d x)
  pub id : IsId d.id

pub key_order : (x : Index) (d e : Doc) → Fits x d → Fits x e → text_cmp (doc_key x d) (doc_key x e) ≡ row_cmp x d e
key_order x d e hd he = places_go_by_keys (place d x) (place e x) hd.place he.place

pub key_apart : (x : Index) (d e : Doc) → HasId x.fields → Fits x d → Fits x e → text_cmp (doc_key x d) (doc_key x e) ≡ Equal → d.id ≡ e.id
key_apart x d e h hd he s = same_place x d e h hd.id he.id (places_exact (place d x) (place e x) (sym (key_order x d e hd he) ∙ s))
