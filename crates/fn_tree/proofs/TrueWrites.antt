-- Actions that put only what is true: reads by an id and writes.
use Rattle.std.proofs.Common.{◌≡◌, ℕ, ◌+◌, ◌<◌, Bool, true, false, List, length, Option, Some, None, Ok, Err, refl, sym, ap, ◌∙◌, subst, arith}
use Rattle.std.specs.Prelude.{Result, nat_le, nat_lt, codes, IfSome, if◌then◌else◌}
use Rattle.std.proofs.lemmas.Bool.{ltb-true}
use Rattle.cv_values.specs.Ids.{id_text, read_id}
use Rattle.cv_values.specs.Sizes.{checked}
use Rattle.cv_values.specs.Value.{Value, null, string, object, members_of}
use Rattle.cv_values.specs.declared.check.ValueFault.{ValueFault}
use Rattle.cv_values.specs.declared.doc.Doc.{Doc}
use Rattle.cv_values.specs.declared.ids.DocId.{DocId}
use Rattle.cv_keys.specs.Documents.{index_at}
use Rattle.cv_keys.specs.declared.schema.Schema.{Schema}
use Rattle.fn_ops.specs.Operations.{made}
use Rattle.fn_tree.specs.Actions.{Counts, Action, ◌>>=◌, ◌>>◌, give, fail, or_fail, or_type_error, Site, quota_text, as_fields}
use Rattle.fn_tree.specs.Course.{get_doc, Course, ask, put}
use Rattle.fn_tree.specs.Documents.{Docs, same_id, doc_of, with_doc}
use Rattle.fn_tree.specs.Names.{table_number}
use Rattle.fn_tree.specs.PutLaws.{IsFresh, IsOwn, IsTrueOf, PutsAreTrue}
use Rattle.fn_tree.specs.Reading.{left_of, counted, id_in, as_id, first_of, doc_or_null, get_value}
use Rattle.fn_tree.specs.Rows.{rows_at, rows_in}
use Rattle.fn_tree.specs.Scan.{Quota, passed, rows_size, doc_size, id_interval, found}
use Rattle.fn_tree.specs.Schemas.{by_id}
use Rattle.fn_tree.specs.Writing.{write, unless_faulty, store, next_ordinal, insert_value, doc_there, change_value, delete_value}
use Rattle.fn_tree.proofs.DocumentLemmas.{same_id_is, by_test, some_same, some_none, doc_of-with_doc}
use Rattle.fn_tree.proofs.RowsOfIds.{doc_of-rows}
use Rattle.fn_tree.proofs.TrueActions.{Goes, Keeps, keeps_bind, keeps_given, keeps_or_type_error, keeps_fields, keeps_doc_at}
use Rattle.fn_tree.specs.declared.stop.Left.{Left}
use Rattle.fn_tree.specs.declared.stop.Put.{Put}
use Rattle.fn_tree.specs.declared.start.Origin.{Origin}

-- each table has `by_id`
abbrev pub HasById : Schema → Type 0
HasById schema = (n : ℕ) → n < length schema.tables → index_at schema n 0 ≡ Some by_id

-- ---- documents stay fresh

abbrev own_id : Origin → (table n : ℕ) → DocId
own_id o table n = record { table = table; session = o.session; request = o.request; ordinal = n }

-- where a document that is there is changed or removed
fresh_changed : (origin : Option Origin) (k : ℕ) (id : DocId) (old : Doc) (new : Option Doc) (ds : Docs) → doc_of id ds ≡ Some old →
    IfSome new (λ d. d.id ≡ id) → IsFresh origin k ds → IsFresh origin k (with_doc id new ds)
fresh_changed None k id old new ds there h fresh = tt
fresh_changed (Some o) k id old new ds there h fresh = λ table n le.
    let other = own_id o table n in
    by_test (same_id other id)
    (λ s. absurd (some_none old (sym there ∙ ap (λ (j : DocId). doc_of j ds) (sym (same_id_is other id s)) ∙ fresh table n le)))
    (λ s. doc_of-with_doc other id new ds h s ∙ fresh table n le)

-- where one of this ordinal is put
fresh_inserted : (origin : Option Origin) (k : ℕ) (d : Doc) (ds : Docs) → d.id.ordinal ≡ k → IsFresh origin k ds → IsFresh origin (k + 1) (with_doc d.id (Some d) ds)
fresh_inserted None k d ds e fresh = tt
fresh_inserted (Some o) k d ds e fresh = λ table n le.
    let other = own_id o table n in
    by_test (same_id other d.id)
    (λ s. let same : n ≡ d.id.ordinal = ap (λ (j : DocId). j.ordinal) (same_id_is other d.id s) in absurd (omega (arith, same, e, le)))
    (λ s. doc_of-with_doc other d.id (Some d) ds refl s ∙ fresh table n (omega (arith, le)))

-- ---- ids

id_is_in : (schema : Schema) (x : Option DocId) (id : DocId) → id_in schema x ≡ Some id → id.table < length schema.tables
id_is_in schema None id e = cc
id_is_in schema (Some k) id e = go (nat_lt k.table (length schema.tables)) refl e
  where
    go : (b : Bool) → nat_lt k.table (length schema.tables) ≡ b → (if b then Some k else None) ≡ Some id → id.table < length schema.tables
    go true p q = subst (λ (j : DocId). j.table < length schema.tables) (some_same k id q) (ltb-true k.table (length schema.tables) p)
    go false p q = cc

module _ (site : Site) where
  abbrev True : Docs → Course → Type 0
  True ds course = PutsAreTrue site.schema site.origin ds course

  abbrev GoesOn : {A : Type 0} → (A → Counts → Course) → Type 0
  GoesOn next = Goes site.schema site.origin next

  abbrev Fresh : Counts → Docs → Type 0
  Fresh c ds = IsFresh site.origin c.inserts ds

  -- an id comes with its table
  keeps_id : {B : Type 0} (v : Value) (f : DocId → Action B) → ((id : DocId) → id.table < length site.schema.tables → Keeps site.schema site.origin (f id)) → Keeps site.schema site.origin (as_id site v >>= f)
  keeps_id (string s) f k = go (id_in site.schema (read_id s)) refl
    where
      go : (x : Option DocId) → id_in site.schema (read_id s) ≡ x → Keeps site.schema site.origin (or_fail (codes "BadId") x >>= f)
      go None e = record { by = λ next goes c ds fresh. tt }
      go (Some id) e = k id (id_is_in site.schema (read_id s) id e)
  keeps_id v f k = record { by = λ next goes c ds fresh. tt }

  pub keeps_get : (v : Value) → Keeps site.schema site.origin (get_value site v)
  keeps_get v = keeps_id v _ (λ id within. keeps_bind (keeps_doc_at site id) (λ d. keeps_given (made (doc_or_null d))))

  -- ---- writes

  -- a write of what is so
  write_goes : (size : ℕ) (p : Put) (next : Unit {0} → Counts → Course) → GoesOn next → (c : Counts) (ds : Docs) →
      IsTrueOf site.origin ds p → Fresh c (with_doc p.id p.new ds) → True ds (write site size p c next)
  write_goes size p next goes c ds so fresh = go (nat_lt c.writes site.limits.writes)
    where
      d : Counts
      d = record c { writes = c.writes + 1; written = c.written + size }

      inner : Bool → Course
      inner b = elim b [ false ↦ fail {A = Unit {0}} (codes "WriteSizeLimit") c next | true ↦ put p (next tt d) ]

      go_in : (b : Bool) → True ds (inner b)
      go_in true = (so, goes tt d (with_doc p.id p.new ds) fresh)
      go_in false = tt

      go : (b : Bool) → True ds (elim b [ false ↦ fail {A = Unit {0}} (codes "WriteLimit") c next | true ↦ inner (nat_le d.written site.limits.written) ])
      go true = go_in (nat_le d.written site.limits.written)
      go false = tt

  store_goes : (old : Option Doc) (new : Doc) (next : Unit {0} → Counts → Course) → GoesOn next → (c : Counts) (ds : Docs) →
      IsTrueOf site.origin ds (record { id = new.id; old = old; new = Some new }) → Fresh c (with_doc new.id (Some new) ds) → True ds (store site old new c next)
  store_goes old new next goes c ds so fresh = go (checked true (object (members_of new.fields)))
    where
      p : Put
      p = record { id = new.id; old = old; new = Some new }

      go : (x : Result (Unit {0}) ValueFault) → True ds ((unless_faulty x >> write site (doc_size new) p) c next)
      go (Ok u) = write_goes (doc_size new) p next goes c ds so fresh
      go (Err e) = tt

  -- ---- inserts

  abbrev insert_rest : Origin → (t : ℕ) → List (List ℕ × Value) → Action Value
  insert_rest o t fields = next_ordinal >>= (λ n.
      let id : DocId = record { table = t; session = o.session; request = o.request; ordinal = n } in
      store site None (record { id = id; creation = o.now; fields = fields }) >> give (string (id_text id)))

  keeps_rest : (o : Origin) (t : ℕ) (fields : List (List ℕ × Value)) → Some o ≡ site.origin → Keeps site.schema site.origin (insert_rest o t fields)
  keeps_rest o t fields e = record {
    by = λ next goes c ds fresh.
        let id : DocId = record { table = t; session = o.session; request = o.request; ordinal = c.inserts } in
        let new : Doc = record { id = id; creation = o.now; fields = fields } in
        let free : IsFresh (Some o) c.inserts ds = subst (λ x. IsFresh x c.inserts ds) (sym e) fresh in
        let none : doc_of id ds ≡ None = free t c.inserts (omega arith) in
        store_goes None new (λ _ d. next (string (id_text id)) d) (λ _ d es i. goes (string (id_text id)) d es i) (record c { inserts = c.inserts + 1 }) ds
        (record { old = sym none; new = refl; own = subst (λ x. IsOwn x id) e (refl, refl) })
        (fresh_inserted site.origin c.inserts new ds refl fresh);
  }

  pub keeps_insert : (table : List ℕ) (v : Value) → Keeps site.schema site.origin (insert_value site table v)
  keeps_insert table v = go site.origin refl
    where
      go : (x : Option Origin) → x ≡ site.origin → Keeps site.schema site.origin (or_type_error x >>= (λ o. or_type_error (table_number site.schema table) >>= (λ t. as_fields v >>= insert_rest o t)))
      go None e = record { by = λ next goes c ds fresh. tt }
      go (Some o) e = keeps_bind (keeps_or_type_error (table_number site.schema table)) (λ t. keeps_bind (keeps_fields v) (λ fields. keeps_rest o t fields e))

  module _ (ids : HasById site.schema) where
    -- what follows a read of a document knows that it is there
    keeps_there : {B : Type 0} (id : DocId) (f : Doc → Action B) → id.table < length site.schema.tables →
        ((old : Doc) (next : B → Counts → Course) → GoesOn next → (c : Counts) (ds : Docs) → Fresh c ds → doc_of id ds ≡ Some old → True ds (f old c next))
        → Keeps site.schema site.origin (doc_there site id >>= f)
    keeps_there {B} id f within k = record { by = λ next goes c ds fresh. go next goes c ds fresh (nat_lt c.ranges site.limits.ranges) }
      where
        then_f : (B → Counts → Course) → List Doc → Counts → Course
        then_f next rows d = or_fail (codes "NoDocument") (first_of rows) d (λ old e. f old e next)

        same : (ds : Docs) → doc_of id (rows_at site.schema (id_interval id) ds) ≡ doc_of id ds
        same ds = ap (λ index. doc_of id (rows_in index (id_interval id) ds)) (ids id.table within) ∙ doc_of-rows id ds

        read_one : (next : B → Counts → Course) → GoesOn next → (left : Left) (d : Counts) (ds : Docs) → Fresh d ds →
            (x : Option Doc) → x ≡ doc_of id ds → (y : Option Quota) →
            True ds (elim y [ None ↦ then_f next (found x) d | Some quota ↦ fail {A = List Doc} (quota_text quota) d (then_f next) ])
        read_one next goes left d ds fresh None e None = tt
        read_one next goes left d ds fresh (Some old) e None = k old next goes d ds fresh (sym e)
        read_one next goes left d ds fresh x e (Some quota) = tt

        go : (next : B → Counts → Course) → GoesOn next → (c : Counts) (ds : Docs) → Fresh c ds → (b : Bool) →
            True ds (elim b [
              | true ↦ ask (get_doc id (left_of site c)) (λ rows. counted (left_of site c) rows (record c { ranges = c.ranges + 1 }) (then_f next))
              | false ↦ fail {A = List Doc} (codes "RangeLimit") c (then_f next)
            ])
        go next goes c ds fresh true =
            let left = left_of site c in
            let x = doc_of id (rows_at site.schema (id_interval id) ds) in
            let d : Counts = record c { ranges = c.ranges + 1; cost = c.cost + length (found x); rows = c.rows + length (found x); size = c.size + rows_size (found x) } in
            read_one next goes left d ds fresh x (same ds) (passed left (length (found x)) (rows_size (found x)))
        go next goes c ds fresh false = tt

    pub keeps_change : (change : (new old : List (List ℕ × Value)) → List (List ℕ × Value)) (v w : Value) → Keeps site.schema site.origin (change_value site change v w)
    keeps_change change v w =
        keeps_bind (keeps_or_type_error site.origin) (λ _.
        keeps_id v _ (λ id within. keeps_bind (keeps_fields w) (λ fields.
        keeps_there id _ within (λ old next goes c ds fresh there.
        let new : Doc = record { id = id; creation = old.creation; fields = change fields old.fields } in
        store_goes (Some old) new (λ _ d. next null d) (λ _ d es i. goes null d es i) c ds
        (record { old = sym there; new = refl; own = tt }) (fresh_changed site.origin c.inserts id old (Some new) ds there refl fresh)))))

    pub keeps_delete : (v : Value) → Keeps site.schema site.origin (delete_value site v)
    keeps_delete v =
        keeps_bind (keeps_or_type_error site.origin) (λ _.
        keeps_id v _ (λ id within.
        keeps_there id _ within (λ old next goes c ds fresh there.
        write_goes 0 (record { id = id; old = Some old; new = None }) (λ _ d. next null d) (λ _ d es i. goes null d es i) c ds
        (record { old = sym there; new = tt; own = tt }) (fresh_changed site.origin c.inserts id old None ds there tt fresh))))
