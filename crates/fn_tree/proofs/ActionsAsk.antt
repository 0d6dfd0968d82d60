-- Actions that ask only for what is there: steps, reads and writes.
use Rattle.std.proofs.Common.{◌≡◌, ℕ, ◌+◌, Bool, true, false, List, length, Option, Some, None, Ok, Err, map, refl, sym, ap, subst}
use Rattle.std.specs.Prelude.{pos, negsuc, Result, nat_le, nat_lt, codes, if◌then◌else◌, option_and_then, slice_get, IsSome}
use Rattle.cv_values.specs.Docs.{doc_value}
use Rattle.cv_values.specs.Ids.{id_text, read_id}
use Rattle.cv_values.specs.Sizes.{checked}
use Rattle.cv_values.specs.Value.{Value, null, int, boolean, string, array, object, members_of, values_of}
use Rattle.cv_values.specs.declared.check.ValueFault.{ValueFault}
use Rattle.cv_values.specs.declared.doc.Doc.{Doc}
use Rattle.cv_values.specs.declared.ids.DocId.{DocId}
use Rattle.cv_keys.specs.Documents.{index_at, indexes_in}
use Rattle.cv_keys.specs.Places.{PlaceInterval}
use Rattle.cv_keys.specs.declared.schema.Index.{Index}
use Rattle.cv_keys.specs.declared.schema.Schema.{Schema}
use Rattle.cv_keys.specs.declared.schema.Table.{Table}
use Rattle.fn_tree.specs.AsksThere.{IsThere, AsksThere}
use Rattle.fn_ops.specs.Operations.{Given, made}
use Rattle.fn_tree.proofs.DocumentLemmas.{some_same}
use Rattle.fn_tree.specs.Actions.{Counts, Action, ◌>>=◌, ◌>>◌, give, fail, or_fail, or_type_error, Site, spend, op_text, value_text, quota_text, given, as_truth, as_items, as_text, as_fields}
use Rattle.fn_tree.specs.Course.{Ask, get_doc, scan_rows, Course, ask, put}
use Rattle.fn_tree.specs.Names.{table_number, index_number}
use Rattle.fn_tree.specs.Reading.{left_of, counted, read, doc_at, limit_of, interval_of, bounded, has_fields, scan_value, id_in, as_id, doc_or_null, get_value}
use Rattle.fn_tree.specs.Scan.{Quota, passed, rows_size, doc_size}
use Rattle.fn_tree.specs.Writing.{write, unless_faulty, store, next_ordinal, insert_value, doc_there, change_value, delete_value}
use Rattle.fn_tree.specs.declared.start.Origin.{Origin}
use Rattle.fn_tree.specs.declared.stop.Left.{Left}
use Rattle.fn_tree.specs.declared.stop.Put.{Put}
use Rattle.fn_tree.specs.declared.syntax.CompareOp.{CompareOp}

-- whatever goes on from here asks only for what is there
abbrev pub Goes : Schema → {A : Type 0} → (A → Counts → Course) → Type 0
Goes schema {A} next = (a : A) (c : Counts) → AsksThere schema (next a c)

-- an action asks only for what is there, and so does all after it, where what goes on from it does
pub record Keeps (schema : Schema) {A : Type 0} (act : Action A) : Type 0 where
  pub by : (next : A → Counts → Course) → Goes schema next → (c : Counts) → AsksThere schema (act c next)

module _ {schema : Schema} where
  pub keeps_bind : {A B : Type 0} {act : Action A} {f : A → Action B} → Keeps schema act → ((a : A) → Keeps schema (f a)) → Keeps schema (act >>= f)
  keeps_bind {f = f} h k = record { by = λ next goes c. h.by (λ a d. f a d next) (λ a d. (k a).by next goes d) c }

  pub keeps_then : {A B : Type 0} {act : Action A} {more : Action B} → Keeps schema act → Keeps schema more → Keeps schema (act >> more)
  keeps_then {more = more} h k = record { by = λ next goes c. h.by (λ a d. more d next) (λ a d. k.by next goes d) c }

  pub keeps_give : {A : Type 0} (a : A) → Keeps schema (give a)
  keeps_give a = record { by = λ next goes c. goes a c }

  pub keeps_fail : {A : Type 0} (why : List ℕ) → Keeps schema (fail {A = A} why)
  keeps_fail why = record { by = λ next goes c. tt }

  pub keeps_given : (g : Given) → Keeps schema (given g)
  keeps_given (Ok v) = keeps_give v
  keeps_given (Err e) = keeps_fail (op_text e)

  pub keeps_or_type_error : {A : Type 0} (x : Option A) → Keeps schema (or_type_error x)
  keeps_or_type_error None = keeps_fail (codes "TypeError")
  keeps_or_type_error (Some a) = keeps_give a

  pub keeps_or_fail : {A : Type 0} (why : List ℕ) (x : Option A) → Keeps schema (or_fail why x)
  keeps_or_fail why None = keeps_fail why
  keeps_or_fail why (Some a) = keeps_give a

  pub keeps_truth : (v : Value) → Keeps schema (as_truth v)
  keeps_truth (boolean b) = keeps_give b
  keeps_truth v = record { by = λ next goes c. tt }

  pub keeps_items : (v : Value) → Keeps schema (as_items v)
  keeps_items (array vs) = keeps_give _
  keeps_items v = record { by = λ next goes c. tt }

  pub keeps_text : (v : Value) → Keeps schema (as_text v)
  keeps_text (string s) = keeps_give s
  keeps_text v = record { by = λ next goes c. tt }

  pub keeps_fields : (v : Value) → Keeps schema (as_fields v)
  keeps_fields (object ms) = keeps_give _
  keeps_fields v = record { by = λ next goes c. tt }

  pub keeps_limit : (v : Value) → Keeps schema (limit_of v)
  keeps_limit (int (pos n)) = keeps_give _
  keeps_limit (int (negsuc n)) = keeps_fail (codes "OutOfRange")
  keeps_limit v = record { by = λ next goes c. tt }

  pub keeps_unless_faulty : (x : Result (Unit {0}) ValueFault) → Keeps schema (unless_faulty x)
  keeps_unless_faulty (Ok u) = keeps_give tt
  keeps_unless_faulty (Err e) = keeps_fail (value_text e)

  pub keeps_choice : {A : Type 0} {a b : Action A} (x : Bool) → Keeps schema a → Keeps schema b → Keeps schema (if x then a else b)
  keeps_choice true h k = h
  keeps_choice false h k = k

  pub keeps_counted : (left : Left) (rows : List Doc) → Keeps schema (counted left rows)
  keeps_counted left rows = record {
    by = λ next goes c.
        let d : Counts = record c { cost = c.cost + length rows; rows = c.rows + length rows; size = c.size + rows_size rows } in
        go next goes d (passed left (length rows) (rows_size rows));
  }
    where
      go : (next : List Doc → Counts → Course) → Goes schema next → (d : Counts) → (x : Option Quota) →
          AsksThere schema (elim x [ None ↦ next rows d | Some quota ↦ fail {A = List Doc} (quota_text quota) d next ])
      go next goes d None = goes rows d
      go next goes d (Some quota) = tt

-- the interval of a scan is one of an index that is there
interval_there : (schema : Schema) (table index : List ℕ) (bounds : List (CompareOp × Value)) (i : PlaceInterval) → interval_of schema table index bounds ≡ Some i
    → IsSome (index_at schema i.table i.index)
interval_there schema table index bounds i e = in_table (table_number schema table) e
  where
    order_at : (t n : ℕ) (x : Option Index) → index_at schema t n ≡ x
        → option_and_then (λ (order : Index). if has_fields order bounds then Some (bounded t n bounds) else None) x ≡ Some i → IsSome (index_at schema i.table i.index)
    order_at t n None at p = cc
    order_at t n (Some order) at p = go (has_fields order bounds) p
      where
        go : (b : Bool) → (if b then Some (bounded t n bounds) else None) ≡ Some i → IsSome (index_at schema i.table i.index)
        go true q = subst (λ (j : PlaceInterval). IsSome (index_at schema j.table j.index)) (some_same (bounded t n bounds) i q) (subst (λ (y : Option Index). IsSome y) (sym at) refl)
        go false q = cc

    in_table : (x : Option ℕ) → option_and_then (λ t. option_and_then (λ (found : Table). option_and_then (λ n.
        option_and_then (λ (order : Index). if has_fields order bounds then Some (bounded t n bounds) else None)
        (slice_get found.indexes n)) (index_number found index)) (slice_get schema.tables t)) x ≡ Some i → IsSome (index_at schema i.table i.index)
    in_table None p = cc
    in_table (Some t) p = in_found (slice_get schema.tables t) refl p
      where
        in_found : (y : Option Table) → slice_get schema.tables t ≡ y → option_and_then (λ (found : Table). option_and_then (λ n.
            option_and_then (λ (order : Index). if has_fields order bounds then Some (bounded t n bounds) else None)
            (slice_get found.indexes n)) (index_number found index)) y ≡ Some i → IsSome (index_at schema i.table i.index)
        in_found None at q = cc
        in_found (Some found) at q = in_index (index_number found index) q
          where
            in_index : (z : Option ℕ) → option_and_then (λ n. option_and_then (λ (order : Index). if has_fields order bounds then Some (bounded t n bounds) else None)
                (slice_get found.indexes n)) z ≡ Some i → IsSome (index_at schema i.table i.index)
            in_index None r = cc
            in_index (Some n) r = order_at t n (slice_get found.indexes n) (ap (λ (o : Option Table). slice_get (indexes_in o) n) at) r

module _ (site : Site) where
  pub keeps_spend : Keeps site.schema (spend site)
  keeps_spend = record { by = λ next goes c. go next goes (record c { cost = c.cost + 1 }) (nat_le (c.cost + 1) site.limits.cost) }
    where
      go : (next : Unit {0} → Counts → Course) → Goes site.schema next → (d : Counts) → (b : Bool) →
          AsksThere site.schema (elim b [ true ↦ next tt d | false ↦ fail {A = Unit {0}} (codes "CostLimit") d next ])
      go next goes d true = goes tt d
      go next goes d false = tt

  pub keeps_read : (question : Left → Ask) → ((left : Left) → IsThere site.schema (question left)) → Keeps site.schema (read site question)
  keeps_read question there = record { by = λ next goes c. go next goes c (nat_lt c.ranges site.limits.ranges) }
    where
      go : (next : List Doc → Counts → Course) → Goes site.schema next → (c : Counts) → (b : Bool) →
          AsksThere site.schema (elim b [
            | true ↦ ask (question (left_of site c)) (λ rows. counted (left_of site c) rows (record c { ranges = c.ranges + 1 }) next)
            | false ↦ fail {A = List Doc} (codes "RangeLimit") c next
          ])
      go next goes c true = (there (left_of site c), λ rows. (keeps_counted (left_of site c) rows).by next goes (record c { ranges = c.ranges + 1 }))
      go next goes c false = tt

  pub keeps_scan_value : (table index : List ℕ) (bounds : List (CompareOp × Value)) (desc : Bool) (most : Option ℕ) → Keeps site.schema (scan_value site table index bounds desc most)
  keeps_scan_value table index bounds desc most = go (interval_of site.schema table index bounds) (interval_there site.schema table index bounds)
    where
      go : (x : Option PlaceInterval) → ((i : PlaceInterval) → x ≡ Some i → IsSome (index_at site.schema i.table i.index))
          → Keeps site.schema (or_type_error x >>= (λ i. read site (scan_rows i desc most) >>= (λ ds. given (made (array (values_of (map doc_value ds)))))))
      go None there = record { by = λ next goes c. tt }
      go (Some i) there =
          let rest = keeps_bind (keeps_read (scan_rows i desc most) (λ left. there i refl)) (λ (rows : List Doc). keeps_given (made (array (values_of (map doc_value rows))))) in
          record { by = λ next goes c. rest.by next goes c }

  pub keeps_doc_at : (id : DocId) → Keeps site.schema (doc_at site id)
  keeps_doc_at id = keeps_bind (keeps_read (get_doc id) (λ left. tt)) (λ rows. keeps_give _)

  keeps_id : (v : Value) → Keeps site.schema (as_id site v)
  keeps_id v = keeps_bind (keeps_text v) (λ s. keeps_or_fail (codes "BadId") (id_in site.schema (read_id s)))

  pub keeps_get : (v : Value) → Keeps site.schema (get_value site v)
  keeps_get v = keeps_bind (keeps_id v) (λ id. keeps_bind (keeps_doc_at id) (λ d. keeps_given (made (doc_or_null d))))

  -- ---- writes

  keeps_write : (size : ℕ) (p : Put) → Keeps site.schema (write site size p)
  keeps_write size p = record { by = λ next goes c. go next goes c (nat_lt c.writes site.limits.writes) }
    where
      inner : (next : Unit {0} → Counts → Course) → Goes site.schema next → (c d : Counts) → (b : Bool) →
          AsksThere site.schema (elim b [ false ↦ fail {A = Unit {0}} (codes "WriteSizeLimit") c next | true ↦ put p (next tt d) ])
      inner next goes c d true = goes tt d
      inner next goes c d false = tt

      go : (next : Unit {0} → Counts → Course) → Goes site.schema next → (c : Counts) → (b : Bool) →
          let d : Counts = record c { writes = c.writes + 1; written = c.written + size } in
          AsksThere site.schema (elim b [
            | false ↦ fail {A = Unit {0}} (codes "WriteLimit") c next
            | true ↦ elim (nat_le d.written site.limits.written) [
              | false ↦ fail {A = Unit {0}} (codes "WriteSizeLimit") c next
              | true ↦ put p (next tt d)
            ]
          ])
      go next goes c true = inner next goes c (record c { writes = c.writes + 1; written = c.written + size }) (nat_le (c.written + size) site.limits.written)
      go next goes c false = tt

  keeps_store : (old : Option Doc) (new : Doc) → Keeps site.schema (store site old new)
  keeps_store old new = keeps_then (keeps_unless_faulty (checked true (object (members_of new.fields)))) (keeps_write _ _)

  pub keeps_insert : (table : List ℕ) (v : Value) → Keeps site.schema (insert_value site table v)
  keeps_insert table v =
      keeps_bind (keeps_or_type_error site.origin) (λ o.
      keeps_bind (keeps_or_type_error (table_number site.schema table)) (λ t.
      keeps_bind (keeps_fields v) (λ fields.
      keeps_bind {act = next_ordinal} (record { by = λ next goes c. goes c.inserts (record c { inserts = c.inserts + 1 }) }) (λ n.
      let id : DocId = record { table = t; session = o.session; request = o.request; ordinal = n } in
      keeps_then (keeps_store None (record { id = id; creation = o.now; fields = fields })) (keeps_give (string (id_text id)))))))

  keeps_there : (id : DocId) → Keeps site.schema (doc_there site id)
  keeps_there id = keeps_bind (keeps_doc_at id) (λ d. keeps_or_fail (codes "NoDocument") d)

  pub keeps_change : (change : (new old : List (List ℕ × Value)) → List (List ℕ × Value)) (v w : Value) → Keeps site.schema (change_value site change v w)
  keeps_change change v w =
      keeps_bind (keeps_or_type_error site.origin) (λ _.
      keeps_bind (keeps_id v) (λ id. keeps_bind (keeps_fields w) (λ fields.
      keeps_bind (keeps_there id) (λ old.
      keeps_then (keeps_store (Some old) (record { id = id; creation = old.creation; fields = change fields old.fields })) (keeps_give null)))))

  pub keeps_delete : (v : Value) → Keeps site.schema (delete_value site v)
  keeps_delete v =
      keeps_bind (keeps_or_type_error site.origin) (λ _.
      keeps_bind (keeps_id v) (λ id.
      keeps_bind (keeps_there id) (λ old. keeps_then (keeps_write 0 (record { id = id; old = Some old; new = None })) (keeps_give null))))
