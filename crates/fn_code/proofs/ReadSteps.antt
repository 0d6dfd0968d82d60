-- Reads: the machine asks and goes on as the course does.
use Rattle.std.proofs.Common.{◌≡◌, ℕ, ◌+◌, Bool, true, false, List, [], ◌∷◌, length, map, Option, Some, None, refl, sym, ap, ◌∙◌, subst, arith, zip, ap₂}
use Rattle.std.specs.Prelude.{slice_get, codes, Result, Ok, nat_lt, nat_le, if◌then◌else◌, option_and_then, option_map}
use Rattle.cv_keys.specs.Places.{PlaceInterval}
use Rattle.cv_keys.specs.declared.schema.Index.{Index}
use Rattle.cv_keys.specs.declared.schema.Schema.{Schema}
use Rattle.cv_keys.specs.declared.schema.Table.{Table}
use Rattle.cv_values.specs.Docs.{doc_value}
use Rattle.cv_values.specs.Ids.{read_id}
use Rattle.cv_values.specs.Value.{Value, string, array, values_of}
use Rattle.cv_values.specs.declared.doc.Doc.{Doc}
use Rattle.cv_values.specs.declared.ids.DocId.{DocId}
use Rattle.fn_ops.specs.Operations as ops
use Rattle.fn_tree.specs.Actions.{Counts, Meaning, fail, given, or_type_error, or_fail, quota_text}
use Rattle.fn_tree.specs.Course.{Ask, get_doc, scan_rows, Course, ask}
use Rattle.fn_tree.specs.Names.{table_number, index_number}
use Rattle.fn_tree.specs.Reading.{left_of, counted, read, id_in, first_of, doc_or_null, get_value, bounded, equals_of, has_bound, has_fields, interval_of, scan_value}
use Rattle.fn_tree.specs.Scan.{Quota, passed, rows_size}
use Rattle.fn_tree.specs.declared.stop.Left.{Left}
use Rattle.fn_tree.specs.declared.syntax.CompareOp.{CompareOp}
use Rattle.fn_tree.specs.declared.syntax.CompareOp.TheVariants.{Equal, NotEqual, Less, LessEqual, Greater, GreaterEqual}
use Rattle.fn_code.specs.CodeMeans.{Follows}
use Rattle.fn_code.specs.Coding.{equal_count, bound_fields, has_room, index_for, scan_code}
use Rattle.fn_code.specs.Operands.{popped}
use Rattle.fn_code.specs.States.{Frame, State, on, asks, fails}
use Rattle.fn_code.specs.Steps.{Terms, step_by, reads, reads_found, goes_on, goes_on_at, pushes, limit_on, under_limit, scans_up_to, gives_rows}
use Rattle.fn_code.specs.declared.code.Code.{Code}
use Rattle.fn_code.specs.declared.code.Instr.{Instr}
use Rattle.fn_code.specs.declared.code.Instr.TheVariants as instr
use Rattle.fn_code.proofs.Places.{site_of, state, Goes, Stands, follows_step, fail_follows, given_follows}
use Rattle.fn_code.proofs.Stacks.{popped_length}

-- ---- the index of a scan

equals_counted : (operators : List CompareOp) (vs : List Value) → length vs ≡ length operators → length (equals_of (zip operators vs)) ≡ equal_count operators
equals_counted [] vs e = refl
equals_counted (op ∷ operators) [] e = absurd (omega arith)
equals_counted (Equal ∷ operators) (v ∷ vs) e = let rest = equals_counted operators vs (omega arith) in omega arith
equals_counted (NotEqual ∷ operators) (v ∷ vs) e = equals_counted operators vs (omega arith)
equals_counted (Less ∷ operators) (v ∷ vs) e = equals_counted operators vs (omega arith)
equals_counted (LessEqual ∷ operators) (v ∷ vs) e = equals_counted operators vs (omega arith)
equals_counted (Greater ∷ operators) (v ∷ vs) e = equals_counted operators vs (omega arith)
equals_counted (GreaterEqual ∷ operators) (v ∷ vs) e = equals_counted operators vs (omega arith)

bounds_counted : (operators : List CompareOp) (vs : List Value) → length vs ≡ length operators → (if has_bound (zip operators vs) then 1 else 0) ≡ bound_fields operators
bounds_counted [] vs e = refl
bounds_counted (op ∷ operators) [] e = absurd (omega arith)
bounds_counted (Equal ∷ operators) (v ∷ vs) e = bounds_counted operators vs (omega arith)
bounds_counted (NotEqual ∷ operators) (v ∷ vs) e = refl
bounds_counted (Less ∷ operators) (v ∷ vs) e = refl
bounds_counted (LessEqual ∷ operators) (v ∷ vs) e = refl
bounds_counted (Greater ∷ operators) (v ∷ vs) e = refl
bounds_counted (GreaterEqual ∷ operators) (v ∷ vs) e = refl

-- the interval of a scan is that of the index that the code found for its operators
interval_is : (schema : Schema) (table index : List ℕ) (operators : List CompareOp) (vs : List Value) → length vs ≡ length operators →
    interval_of schema table index (zip operators vs) ≡ option_map (λ (n : ℕ × ℕ). bounded n.0 n.1 (zip operators vs)) (index_for schema table index operators)
interval_is schema table index operators vs e = in_tables (table_number schema table)
  where
    room : (order : Index) → has_fields order (zip operators vs) ≡ has_room order operators
    room order = ap₂ (λ n m. nat_le (n + m) (length order.fields)) (equals_counted operators vs e) (bounds_counted operators vs e)

    within : (number i : ℕ) (order : Index) (b : Bool) →
        (if b then Some (bounded number i (zip operators vs)) else None) ≡ option_map (λ (n : ℕ × ℕ). bounded n.0 n.1 (zip operators vs)) (if b then Some (number, i) else None)
    within number i order true = refl
    within number i order false = refl

    in_order : (number i : ℕ) (x : Option Index) →
        option_and_then (λ (order : Index). if has_fields order (zip operators vs) then Some (bounded number i (zip operators vs)) else None) x
        ≡ option_map (λ (n : ℕ × ℕ). bounded n.0 n.1 (zip operators vs)) (option_and_then (λ (order : Index). if has_room order operators then Some (number, i) else None) x)
    in_order number i None = refl
    in_order number i (Some order) = ap (λ b. if b then Some (bounded number i (zip operators vs)) else None) (room order) ∙ within number i order (has_room order operators)

    in_indexes : (number : ℕ) (found : Table) (x : Option ℕ) →
        option_and_then (λ i. option_and_then (λ (order : Index). if has_fields order (zip operators vs) then Some (bounded number i (zip operators vs)) else None) (slice_get found.indexes i)) x
        ≡ option_map (λ (n : ℕ × ℕ). bounded n.0 n.1 (zip operators vs))
        (option_and_then (λ i. option_and_then (λ (order : Index). if has_room order operators then Some (number, i) else None) (slice_get found.indexes i)) x)
    in_indexes number found None = refl
    in_indexes number found (Some i) = in_order number i (slice_get found.indexes i)

    in_table : (number : ℕ) (x : Option Table) →
        option_and_then (λ (found : Table). option_and_then (λ i.
        option_and_then (λ (order : Index). if has_fields order (zip operators vs) then Some (bounded number i (zip operators vs)) else None) (slice_get found.indexes i)) (index_number found index)) x
        ≡ option_map (λ (n : ℕ × ℕ). bounded n.0 n.1 (zip operators vs)) (option_and_then (λ (found : Table). option_and_then (λ i.
        option_and_then (λ (order : Index). if has_room order operators then Some (number, i) else None) (slice_get found.indexes i)) (index_number found index)) x)
    in_table number None = refl
    in_table number (Some found) = in_indexes number found (index_number found index)

    in_tables : (x : Option ℕ) →
        option_and_then (λ number. option_and_then (λ (found : Table). option_and_then (λ i.
        option_and_then (λ (order : Index). if has_fields order (zip operators vs) then Some (bounded number i (zip operators vs)) else None) (slice_get found.indexes i)) (index_number found index)) (slice_get schema.tables number)) x
        ≡ option_map (λ (n : ℕ × ℕ). bounded n.0 n.1 (zip operators vs)) (option_and_then (λ number. option_and_then (λ (found : Table). option_and_then (λ i.
        option_and_then (λ (order : Index). if has_room order operators then Some (number, i) else None) (slice_get found.indexes i)) (index_number found index)) (slice_get schema.tables number)) x)
    in_tables None = refl
    in_tables (Some number) = in_table number (slice_get schema.tables number)

module _ (t : Terms) (code : Code) (helpers : List (List ℕ × Meaning)) where
  -- one read at an instruction that goes on with its rows
  pub read_follows : (s : State) (i : Instr) → slice_get code.instrs s.frame.at ≡ Some i → (question : Left → Ask) (next : List Doc → Counts → Course) →
      ((ds : List Doc) (c : Counts) → Follows t code (next ds c) (goes_on t (record s { counts = c }) ds i)) →
      Follows t code (read (site_of t code helpers) question s.counts next) (reads t s question)
  read_follows s i here question next goes = asked (nat_lt s.counts.ranges t.limits.ranges)
    where
      left : Left
      left = left_of (site_of t code helpers) s.counts

      waiting : State
      waiting = record s { counts = record s.counts { ranges = s.counts.ranges + 1 } }

      after : List Doc → Counts
      after ds = record waiting.counts { cost = waiting.counts.cost + length ds; rows = waiting.counts.rows + length ds; size = waiting.counts.size + rows_size ds }

      told : (ds : List Doc) (x : Option Quota) →
          Follows t code (elim x [ None ↦ next ds (after ds) | Some quota ↦ fail {A = List Doc} (quota_text quota) (after ds) next ])
          (elim x [ None ↦ goes_on_at t (record waiting { counts = after ds }) ds (slice_get code.instrs s.frame.at) | Some quota ↦ fails (after ds) (quota_text quota) ])
      told ds None = subst (λ (j : Option Instr). Follows t code (next ds (after ds)) (goes_on_at t (record waiting { counts = after ds }) ds j)) (sym here) (goes ds (after ds))
      told ds (Some quota) = (0, refl)

      asked : (b : Bool) → Follows t code (elim b [
        | true ↦ ask (question left) (λ ds. counted left ds waiting.counts next)
        | false ↦ fail {A = List Doc} (codes "RangeLimit") s.counts next
      ])
          (elim b [ true ↦ asks (question left) waiting | false ↦ fails s.counts (codes "RangeLimit") ])
      asked true = (0, waiting, refl, λ ds. told ds (passed left (length ds) (rows_size ds)))
      asked false = (0, refl)

  -- a read of the document of an id
  pub read_id_follows : (s : State) (i : Instr) → slice_get code.instrs s.frame.at ≡ Some i → (text : List ℕ) (next : DocId → List Doc → Counts → Course) →
      ((id : DocId) (ds : List Doc) (c : Counts) → read_id text ≡ Some id → Follows t code (next id ds c) (goes_on t (record s { counts = c }) ds i)) →
      Follows t code (or_fail (codes "BadId") (id_in code.schema (read_id text)) s.counts (λ id c. read (site_of t code helpers) (get_doc id) c (next id)))
      (reads_found t s (id_in code.schema (read_id text)))
  read_id_follows s i here text next goes = found (read_id text) refl
    where
      inside : (id : DocId) → read_id text ≡ Some id → (b : Bool) →
          Follows t code (or_fail (codes "BadId") (if b then Some id else None) s.counts (λ id c. read (site_of t code helpers) (get_doc id) c (next id)))
          (reads_found t s (if b then Some id else None))
      inside id e true = read_follows s i here (get_doc id) (next id) (λ ds c. goes id ds c e)
      inside id e false = (0, refl)

      found : (x : Option DocId) → read_id text ≡ x →
          Follows t code (or_fail (codes "BadId") (id_in code.schema x) s.counts (λ id c. read (site_of t code helpers) (get_doc id) c (next id)))
          (reads_found t s (id_in code.schema x))
      found None e = (0, refl)
      found (Some id) e = inside id e (nat_lt id.table (length code.schema.tables))

  pub get_follows : (place : ℕ) (vars stack : List Value) (loops : List (List Value)) (callers : List Frame) → slice_get code.instrs place ≡ Some instr.Get →
      (next : Value → Counts → Course) → Goes t code (place + 1) vars stack loops callers next → (v : Value) (c : Counts) →
      Follows t code (get_value (site_of t code helpers) v c next) (on (state place vars (v ∷ stack) loops callers c))
  get_follows place vars stack loops callers here next goes v c =
      follows_step t code (get_value (site_of t code helpers) v c next) (state place vars (v ∷ stack) loops callers c) instr.Get here (by v)
    where
      by : (v : Value) → Follows t code (get_value (site_of t code helpers) v c next) (step_by t code (state place vars (v ∷ stack) loops callers c) instr.Get)
      by (string text) = read_id_follows (state place vars (string text ∷ stack) loops callers c) instr.Get here text
          (λ id ds d. given (ops.made (doc_or_null (first_of ds))) d next)
          (λ id ds d e. given_follows t code (state place vars (string text ∷ stack) loops callers d) stack next (λ w. goes w d) (ops.made (doc_or_null (first_of ds))))
      by v = (0, refl)

  -- ---- scans

  rows_follow : (s : State) (table index : ℕ) (operators : List CompareOp) (desc limited : Bool) →
      slice_get code.instrs s.frame.at ≡ Some (instr.Scan table index operators desc limited) →
      (vs stack : List Value) → popped (length operators) [] (under_limit limited s.frame.stack) ≡ Some (vs, stack) →
      (limit : Option ℕ) → limit_on limited s.frame.stack ≡ Ok limit →
      (next : Value → Counts → Course) → ((v : Value) (c : Counts) → Follows t code (next v c) (pushes (record s { counts = c }) v stack)) →
      Follows t code (read (site_of t code helpers) (scan_rows (bounded table index (zip operators vs)) desc limit) s.counts (λ ds d. given (ops.made (array (values_of (map doc_value ds)))) d next)) (on s)
  rows_follow s table index operators desc limited here vs stack values limit most next follows =
      follows_step t code course s (instr.Scan table index operators desc limited) here
      (subst (λ (x : Option (List Value × List Value)). Follows t code course (scans_up_to t s table index operators desc x (limit_on limited s.frame.stack))) (sym values)
      (subst (λ (x : Result (Option ℕ) (List ℕ)). Follows t code course (scans_up_to t s table index operators desc (Some (vs, stack)) x)) (sym most)
      (read_follows s (instr.Scan table index operators desc limited) here (scan_rows (bounded table index (zip operators vs)) desc limit) after
      (λ ds c. subst (λ (x : Option (List Value × List Value)). Follows t code (after ds c) (gives_rows (record s { counts = c }) ds x)) (sym values)
      (given_follows t code (record s { counts = c }) stack next (λ v. follows v c) (ops.made (array (values_of (map doc_value ds)))))))))
    where
      after : List Doc → Counts → Course
      after ds d = given (ops.made (array (values_of (map doc_value ds)))) d next

      course : Course
      course = read (site_of t code helpers) (scan_rows (bounded table index (zip operators vs)) desc limit) s.counts after

  pub scan_follows : (place behind : ℕ) (vars all : List Value) (loops : List (List Value)) (callers : List Frame)
      (table index : List ℕ) (operators : List CompareOp) (desc limited : Bool) →
      Stands code.instrs place (scan_code (index_for code.schema table index operators) operators desc limited) behind →
      (vs stack : List Value) → popped (length operators) [] (under_limit limited all) ≡ Some (vs, stack) →
      (limit : Option ℕ) → limit_on limited all ≡ Ok limit →
      (next : Value → Counts → Course) → Goes t code behind vars stack loops callers next → (c : Counts) →
      Follows t code (scan_value (site_of t code helpers) table index (zip operators vs) desc limit c next) (on (state place vars all loops callers c))
  scan_follows place behind vars all loops callers table index operators desc limited h vs stack values limit most next follows c =
      subst (λ (x : Option PlaceInterval). Follows t code (or_type_error x c rest) (on (state place vars all loops callers c)))
      (sym (interval_is code.schema table index operators vs (popped_length (length operators) [] (under_limit limited all) vs stack values ∙ (omega arith))))
      (go (index_for code.schema table index operators) h)
    where
      rest : PlaceInterval → Counts → Course
      rest i d = read (site_of t code helpers) (scan_rows i desc limit) d (λ ds e. given (ops.made (array (values_of (map doc_value ds)))) e next)

      go : (x : Option (ℕ × ℕ)) → Stands code.instrs place (scan_code x operators desc limited) behind →
          Follows t code (or_type_error (option_map (λ (n : ℕ × ℕ). bounded n.0 n.1 (zip operators vs)) x) c rest) (on (state place vars all loops callers c))
      go None h = fail_follows t code (state place vars all loops callers c) h.0
      go (Some n) h = rows_follow (state place vars all loops callers c) n.0 n.1 operators desc limited h.0 vs stack values limit most next
          (λ v d. subst (λ (k : ℕ). Follows t code (next v d) (on (state k vars (v ∷ stack) loops callers d))) (sym h.1) (follows v d))
