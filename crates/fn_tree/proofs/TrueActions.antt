-- Actions that put only what is true: steps that write nothing.
use Rattle.std.proofs.Common.{ℕ, ◌+◌, Bool, true, false, List, length, Option, Some, None, Ok, Err}
use Rattle.std.specs.Prelude.{pos, negsuc, Result, nat_le, nat_lt, codes, if◌then◌else◌}
use Rattle.cv_values.specs.Value.{Value, int, boolean, string, array, object}
use Rattle.cv_values.specs.declared.check.ValueFault.{ValueFault}
use Rattle.cv_values.specs.declared.doc.Doc.{Doc}
use Rattle.cv_values.specs.declared.ids.DocId.{DocId}
use Rattle.cv_keys.specs.declared.schema.Schema.{Schema}
use Rattle.fn_ops.specs.Operations.{Given}
use Rattle.fn_tree.specs.Actions.{Counts, Action, ◌>>=◌, ◌>>◌, give, fail, or_type_error, Site, spend, op_text, value_text, quota_text, given, as_truth, as_items, as_text, as_fields}
use Rattle.fn_tree.specs.Course.{Ask, get_doc, scan_rows, Course, ask}
use Rattle.fn_tree.specs.Documents.{Docs}
use Rattle.fn_tree.specs.PutLaws.{IsFresh, PutsAreTrue}
use Rattle.fn_tree.specs.Reading.{left_of, counted, read, doc_at, limit_of, interval_of, scan_value}
use Rattle.fn_tree.specs.Scan.{Quota, passed, rows_size, answer}
use Rattle.fn_tree.specs.Writing.{unless_faulty}
use Rattle.fn_tree.specs.declared.syntax.CompareOp.{CompareOp}
use Rattle.fn_tree.specs.declared.stop.Left.{Left}
use Rattle.fn_tree.specs.declared.start.Origin.{Origin}

-- what goes on from here puts truly, on documents that are fresh from then on
abbrev pub Goes : Schema → Option Origin → {A : Type 0} → (A → Counts → Course) → Type 0
Goes schema origin {A} next = (a : A) (c : Counts) (ds : Docs) → IsFresh origin c.inserts ds → PutsAreTrue schema origin ds (next a c)

-- an action puts truly, and so does all after it, where what goes on from it does
pub record Keeps (schema : Schema) (origin : Option Origin) {A : Type 0} (act : Action A) : Type 0 where
  pub by : (next : A → Counts → Course) → Goes schema origin next → (c : Counts) (ds : Docs) → IsFresh origin c.inserts ds → PutsAreTrue schema origin ds (act c next)

module _ {schema : Schema} {origin : Option Origin} where
  pub keeps_bind : {A B : Type 0} {act : Action A} {f : A → Action B} → Keeps schema origin act → ((a : A) → Keeps schema origin (f a)) → Keeps schema origin (act >>= f)
  keeps_bind {f = f} h k = record { by = λ next goes c ds fresh. h.by (λ a d. f a d next) (λ a d es i. (k a).by next goes d es i) c ds fresh }

  pub keeps_then : {A B : Type 0} {act : Action A} {more : Action B} → Keeps schema origin act → Keeps schema origin more → Keeps schema origin (act >> more)
  keeps_then {more = more} h k = record { by = λ next goes c ds fresh. h.by (λ a d. more d next) (λ a d es i. k.by next goes d es i) c ds fresh }

  pub keeps_give : {A : Type 0} (a : A) → Keeps schema origin (give a)
  keeps_give a = record { by = λ next goes c ds fresh. goes a c ds fresh }

  pub keeps_fail : {A : Type 0} (why : List ℕ) → Keeps schema origin (fail {A = A} why)
  keeps_fail why = record { by = λ next goes c ds fresh. tt }

  pub keeps_given : (g : Given) → Keeps schema origin (given g)
  keeps_given (Ok v) = keeps_give v
  keeps_given (Err e) = keeps_fail (op_text e)

  pub keeps_or_type_error : {A : Type 0} (x : Option A) → Keeps schema origin (or_type_error x)
  keeps_or_type_error None = keeps_fail (codes "TypeError")
  keeps_or_type_error (Some a) = keeps_give a

  pub keeps_truth : (v : Value) → Keeps schema origin (as_truth v)
  keeps_truth (boolean b) = keeps_give b
  keeps_truth v = record { by = λ next goes c ds fresh. tt }

  pub keeps_items : (v : Value) → Keeps schema origin (as_items v)
  keeps_items (array vs) = keeps_give _
  keeps_items v = record { by = λ next goes c ds fresh. tt }

  pub keeps_text : (v : Value) → Keeps schema origin (as_text v)
  keeps_text (string s) = keeps_give s
  keeps_text v = record { by = λ next goes c ds fresh. tt }

  pub keeps_fields : (v : Value) → Keeps schema origin (as_fields v)
  keeps_fields (object ms) = keeps_give _
  keeps_fields v = record { by = λ next goes c ds fresh. tt }

  pub keeps_limit : (v : Value) → Keeps schema origin (limit_of v)
  keeps_limit (int (pos n)) = keeps_give _
  keeps_limit (int (negsuc n)) = keeps_fail (codes "OutOfRange")
  keeps_limit v = record { by = λ next goes c ds fresh. tt }

  pub keeps_unless_faulty : (x : Result (Unit {0}) ValueFault) → Keeps schema origin (unless_faulty x)
  keeps_unless_faulty (Ok u) = keeps_give tt
  keeps_unless_faulty (Err e) = keeps_fail (value_text e)

  pub keeps_choice : {A : Type 0} {a b : Action A} (x : Bool) → Keeps schema origin a → Keeps schema origin b → Keeps schema origin (if x then a else b)
  keeps_choice true h k = h
  keeps_choice false h k = k

  pub keeps_counted : (left : Left) (rows : List Doc) → Keeps schema origin (counted left rows)
  keeps_counted left rows = record {
    by = λ next goes c ds fresh.
        let d : Counts = record c { cost = c.cost + length rows; rows = c.rows + length rows; size = c.size + rows_size rows } in
        go next goes d ds fresh (passed left (length rows) (rows_size rows));
  }
    where
      go : (next : List Doc → Counts → Course) → Goes schema origin next → (d : Counts) (ds : Docs) → IsFresh origin d.inserts ds → (x : Option Quota) →
          PutsAreTrue schema origin ds (elim x [ None ↦ next rows d | Some quota ↦ fail {A = List Doc} (quota_text quota) d next ])
      go next goes d ds fresh None = goes rows d ds fresh
      go next goes d ds fresh (Some quota) = tt

module _ (site : Site) where
  pub keeps_spend : Keeps site.schema site.origin (spend site)
  keeps_spend = record { by = λ next goes c ds fresh. go next goes (record c { cost = c.cost + 1 }) ds fresh (nat_le (c.cost + 1) site.limits.cost) }
    where
      go : (next : Unit {0} → Counts → Course) → Goes site.schema site.origin next → (d : Counts) (ds : Docs) → IsFresh site.origin d.inserts ds → (b : Bool) →
          PutsAreTrue site.schema site.origin ds (elim b [ true ↦ next tt d | false ↦ fail {A = Unit {0}} (codes "CostLimit") d next ])
      go next goes d ds fresh true = goes tt d ds fresh
      go next goes d ds fresh false = tt

  pub keeps_read : (question : Left → Ask) → Keeps site.schema site.origin (read site question)
  keeps_read question = record { by = λ next goes c ds fresh. go next goes c ds fresh (nat_lt c.ranges site.limits.ranges) }
    where
      go : (next : List Doc → Counts → Course) → Goes site.schema site.origin next → (c : Counts) (ds : Docs) → IsFresh site.origin c.inserts ds → (b : Bool) →
          PutsAreTrue site.schema site.origin ds (elim b [
            | true ↦ ask (question (left_of site c)) (λ rows. counted (left_of site c) rows (record c { ranges = c.ranges + 1 }) next)
            | false ↦ fail {A = List Doc} (codes "RangeLimit") c next
          ])
      go next goes c ds fresh true =
          (keeps_counted (left_of site c) (answer site.schema ds (question (left_of site c))).docs).by next goes (record c { ranges = c.ranges + 1 }) ds fresh
      go next goes c ds fresh false = tt

  pub keeps_scan_value : (table index : List ℕ) (bounds : List (CompareOp × Value)) (desc : Bool) (most : Option ℕ) → Keeps site.schema site.origin (scan_value site table index bounds desc most)
  keeps_scan_value table index bounds desc most =
      keeps_bind (keeps_or_type_error (interval_of site.schema table index bounds)) (λ i.
      keeps_bind (keeps_read (scan_rows i desc most)) (λ rows. keeps_given _))

  pub keeps_doc_at : (id : DocId) → Keeps site.schema site.origin (doc_at site id)
  keeps_doc_at id = keeps_bind (keeps_read (get_doc id)) (λ rows. keeps_give _)
