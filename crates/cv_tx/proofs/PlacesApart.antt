-- In an index of a program documents of different ids have different places.
use Rattle.std.proofs.Common.{◌≡◌, ℕ, zero, suc, List, [], ◌∷◌, ◌++◌, Some, None, Less, Equal, Greater, refl, sym, ap, ◌∙◌, subst, append_assoc}
use Rattle.std.specs.Prelude.{map, slice_get, codes}
use Rattle.std.specs.declared.cmp.Ordering.{Ordering}
use Rattle.std.specs.Ordering.{ordering_then}
use Rattle.cv_values.specs.IdLaws.{IsId}
use Rattle.cv_values.specs.Ids.{id_text, read_id}
use Rattle.cv_values.specs.Order.{compare_items}
use Rattle.cv_values.specs.OrderLaws.{compare_exact}
use Rattle.cv_values.specs.declared.doc.Doc.{Doc}
use Rattle.cv_values.proofs.IdTexts.{ids_are_read_back}
use Rattle.cv_keys.specs.Documents.{index_at, item_at, place}
use Rattle.cv_keys.specs.Places.{Item, Place, place_cmp}
use Rattle.cv_keys.specs.declared.schema.Index.{Index}
use Rattle.fn_tree.specs.Schemas.{by_id, by_creation_time, declared_index, text_of, schema_of}
use Rattle.fn_tree.specs.SyntaxTree.{TableTree, IndexTree}
use Rattle.fn_tree.proofs.DocumentLemmas.{some_same}

exact_item : (x y : Item) → compare_items x y ≡ Equal → x ≡ y
exact_item None None e = refl
exact_item None (Some w) e = cc
exact_item (Some v) None e = cc
exact_item (Some v) (Some w) e = ap Some (compare_exact v w e)

exact_place : (p q : Place) → place_cmp p q ≡ Equal → p ≡ q
exact_place [] [] e = refl
exact_place [] (y ∷ q) e = cc
exact_place (x ∷ p) [] e = cc
exact_place (x ∷ p) (y ∷ q) e = go (compare_items x y) refl e (exact_place p q)
  where
    go : (o : Ordering) → compare_items x y ≡ o → ordering_then o (place_cmp p q) ≡ Equal → (place_cmp p q ≡ Equal → p ≡ q) → x ∷ p ≡ y ∷ q
    go Less f h rest = cc
    go Equal f h rest = ap (λ z. z ∷ p) (exact_item x y f) ∙ ap (λ l. y ∷ l) (rest h)
    go Greater f h rest = cc

-- the last field is the id
pub record TellsIds (index : Index) : Type 0 where
  pub front : List (List ℕ)
  pub fields_are : index.fields ≡ front ++ codes "_id" ∷ []

same_last : (f g : List ℕ → Item) (fs : List (List ℕ)) (z : List ℕ) → map f (fs ++ z ∷ []) ≡ map g (fs ++ z ∷ []) → f z ≡ g z
same_last f g [] z e = cc
same_last f g (h ∷ fs) z e = let t : map f (fs ++ z ∷ []) ≡ map g (fs ++ z ∷ []) = cc in same_last f g fs z t

pub ids_apart : (index : Index) (x y : Doc) → TellsIds index → IsId x.id → IsId y.id → place_cmp (place x index) (place y index) ≡ Equal → x.id ≡ y.id
ids_apart index x y tells h k e =
    let items : item_at x (codes "_id") ≡ item_at y (codes "_id") = same_last (item_at x) (item_at y) tells.front (codes "_id")
    (ap (map (item_at x)) (sym tells.fields_are) ∙ exact_place (place x index) (place y index) e ∙ ap (map (item_at y)) tells.fields_are) in
    let texts : id_text x.id ≡ id_text y.id = cc in
    some_same x.id y.id (sym (ids_are_read_back x.id h) ∙ ap read_id texts ∙ ids_are_read_back y.id k)

declared_tells : (is : List IndexTree) (k : ℕ) (index : Index) → slice_get (map declared_index is) k ≡ Some index → TellsIds index
declared_tells [] k index e = cc
declared_tells (i ∷ is) zero index e =
    subst TellsIds (some_same (declared_index i) index e)
    (record { front = map text_of i.fields ++ codes "_creationTime" ∷ []; fields_are = sym (append_assoc (map text_of i.fields) (codes "_creationTime" ∷ []) (codes "_id" ∷ [])) })
declared_tells (i ∷ is) (suc k) index e = declared_tells is k index e

pub index_tells : (ts : List TableTree) (t k : ℕ) (index : Index) → index_at (schema_of ts) t k ≡ Some index → TellsIds index
index_tells [] zero k index e = cc
index_tells [] (suc t) k index e = cc
index_tells (x ∷ ts) zero zero index e = subst TellsIds (some_same by_id index e) (record { front = []; fields_are = refl })
index_tells (x ∷ ts) zero (suc zero) index e = subst TellsIds (some_same by_creation_time index e) (record { front = codes "_creationTime" ∷ []; fields_are = refl })
index_tells (x ∷ ts) zero (suc (suc k)) index e = declared_tells x.indexes k index e
index_tells (x ∷ ts) (suc t) k index e = index_tells ts t k index e
