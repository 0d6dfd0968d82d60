-- One read of a run.
use Rattle.std.proofs.Common.{◌≡◌, ◌∙◌, ℕ, ◌+◌, ◌-◌, ◌^◌, ◌<◌, ◌≤◌, min, Bool, true, false, List, [], ◌∷◌, ◌++◌, length, map, Option, Some, None, Vec, Global, refl, sym, ap, subst, append_assoc, append-nil, arith, get_or, ◌⊎◌, inl, inr}
use Rattle.std.specs.Prelude.{nat_lt, codes, if◌then◌else◌, Result, Ok, Err, IfOk, IfErr, slice_get, option_and_then}
use Rattle.std.specs.Result.{IsErrAnd}
use Rattle.std.proofs.lemmas.Bool.Decides.{nat_tests}
use Rattle.std.proofs.lemmas.Option.{slice_get_cases}
use Rattle.cv_values.specs.Ids.{read_id}
use Rattle.cv_values.specs.Trees.{tree}
use Rattle.cv_values.specs.Value.{Value}
use Rattle.cv_values.specs.declared.doc.Doc.{Doc}
use Rattle.cv_values.specs.declared.ids.DocId.{DocId}
use Rattle.cv_values.specs.declared.val.Val.{Val}
use Rattle.cv_values.specs.declared.val.Val.TheVariants.{Str}
use Rattle.cv_keys.specs.Intervals.{in_bytes}
use Rattle.cv_keys.specs.Places.{PlaceInterval}
use Rattle.cv_keys.specs.declared.interval.Interval.{Interval}
use Rattle.cv_keys.specs.Documents.{index_at, indexes_in}
use Rattle.cv_keys.specs.declared.schema.Index.{Index}
use Rattle.cv_keys.specs.declared.schema.Schema.{Schema}
use Rattle.cv_keys.specs.declared.schema.Table.{Table}
use Rattle.cv_values.specs.declared.memory.Memory.{Memory as NoMemory}
use Rattle.fn_tree.specs.Names.{table_number, index_number}
use Rattle.fn_ops.specs.Operations.{Given}
use Rattle.fn_ops.specs.declared.fault.OpFault.{OpFault}
use Rattle.fn_ops.specs.declared.fault.OpFault.TheVariants as op_fault
use Rattle.fn_tree.specs.Actions.{Limits, Counts, Action, fail, or_fail, or_type_error, op_text, given, quota_text}
use Rattle.fn_tree.specs.Course.{failed, Ask, Course, ask}
use Rattle.fn_tree.specs.Reading.{counted, read, id_in, as_id, interval_of}
use Rattle.fn_tree.specs.Run.{with_puts, Played, played}
use Rattle.fn_tree.specs.Scan.{Quota, of_cost, of_rows, of_size, of_read, read_rows, rows_size, passed, answer}
use Rattle.fn_tree.specs.declared.syntax.CompareOp.{CompareOp}
use Rattle.fn_tree.specs.declared.stop.Left.{Left}
use Rattle.fn_plain.specs.Operations.{Tells}
use Rattle.fn_plain.specs.Scans.{Stands, StandsFor, Answered, left_in, bounded_in}
use Rattle.fn_plain.specs.States.{IsWithin, Gives, EndsBy, Fails, End, counts_of, end_of, site_at}
use Rattle.fn_plain.specs.Texts.{Says}
use Rattle.fn_plain.specs.declared.context.Context.{Context}
use Rattle.fn_plain.specs.declared.context.Counts.{Counts as HeldCounts}
use Rattle.fn_plain.specs.declared.context.Progress.{Progress}
use Rattle.fn_plain.specs.declared.fault.Fault.{Fault}
use Rattle.fn_plain.specs.declared.fault.Fault.TheVariants.{Failed, Memory}
use Rattle.fn_plain.proofs.Consuming.{same_test}
use Rattle.fn_plain.proofs.Sites.{site_schema, site_limits}
use Rattle.fn_plain.proofs.Steps.{Reaches, gave_pure, fail_fails, reached_fails}

-- ---- quotas

-- the first of four that holds
abbrev first_passed : (a b s r : Bool) → Option Quota
first_passed a b s r = if a then Some of_cost else (if b then Some of_rows else (if s then Some of_size else (if r then Some of_read else None)))

-- a size that ends at the greatest number passes the quotas as the true size does
pub passed-same : (left : Left) (n size held : ℕ) → left.size < 2 ^ 62 → held ≡ min size (2 ^ 64 - 1) → passed left n held ≡ passed left n size
passed-same left n size held room e =
    ap (λ b. first_passed (nat_lt left.cost n) (nat_lt left.rows n) b (nat_lt read_rows n)) (same_test left.size size held room e)

none_parts : (a b s r : Bool) → first_passed a b s r ≡ None → (a ≡ false) × (b ≡ false) × (s ≡ false)
none_parts true b s r h = cc
none_parts false true s r h = cc
none_parts false false true r h = cc
none_parts false false false r h = (refl, refl, refl)

not_over : (a n : ℕ) → nat_lt a n ≡ false → n ≤ a
not_over a n h = grind (arith, nat_tests)

-- what passes no quota is within them
pub record Fit (left : Left) (n size : ℕ) : Type 0 where
  pub cost : n ≤ left.cost
  pub rows : n ≤ left.rows
  pub size_fits : size ≤ left.size

pub unpassed : (left : Left) (n size : ℕ) → passed left n size ≡ None → Fit left n size
unpassed left n size h =
    let p = none_parts (nat_lt left.cost n) (nat_lt left.rows n) (nat_lt left.size size) (nat_lt read_rows n) h in
    record { cost = not_over left.cost n p.0; rows = not_over left.rows n p.1; size_fits = not_over left.size size p.2 }

-- ---- counted rows

abbrev with_counts : Progress → HeldCounts → Progress
with_counts p counts = record p { counts = counts }

abbrev counts_after : HeldCounts → List Doc → Counts
counts_after counts ds = record (counts_of counts) { cost = counts.cost + length ds; rows = counts.rows + length ds; size = counts.size + rows_size ds }

abbrev coming : List Doc → Counts → (List Doc → Counts → Course) → Option Quota → Course
coming ds d next o = elim o [ None ↦ next ds d | Some quota ↦ fail {A = List Doc} (quota_text quota) d next ]

pub counted-gives : (c : Context) (p : Progress) (left : Left) (ds : List Doc) (new : HeldCounts) → passed left (length ds) (rows_size ds) ≡ None
    → counts_of new ≡ counts_after p.counts ds → IsWithin 0 c new → Gives c p (with_counts p new) (counted left ds) ds
counted-gives c p left ds new none is within = record {
  within = within;
  by = λ next. ap (λ o. end_of c p (coming ds (counts_after p.counts ds) next o)) none ∙ ap (λ d. end_of c p (next ds d)) (sym is);
}

counted-ends : (c : Context) (p : Progress) (left : Left) (ds : List Doc) (new : HeldCounts) (quota : Quota) → passed left (length ds) (rows_size ds) ≡ Some quota
    → new.cost ≡ p.counts.cost + length ds → EndsBy c p (with_counts p new) (counted left ds) (quota_text quota)
counted-ends c p left ds new quota some cost = record {
  by = λ next. ap (λ o. end_of c p (coming ds (counts_after p.counts ds) next o)) some
      ∙ ap (λ (reads : List Interval). ended reads (p.counts.cost + length ds)) (append-nil p.reads.items) ∙ ap (λ n. ended p.reads.items n) (sym cost);
}
  where
    ended : List Interval → ℕ → End
    ended reads n = record { reply = failed (quota_text quota); puts = p.puts.items; reads = reads; cost = n }

pub counted-fails : (c : Context) (p : Progress) (left : Left) (ds : List Doc) (new : HeldCounts) (quota : Quota) (fault : Fault) → passed left (length ds) (rows_size ds) ≡ Some quota
    → new.cost ≡ p.counts.cost + length ds → Says fault (quota_text quota) → Fails c p (with_counts p new) (counted left ds) fault
counted-fails c p left ds new quota (Failed why) some cost says = subst (λ w. EndsBy c p (with_counts p new) (counted left ds) w) (sym says) (counted-ends c p left ds new quota some cost)
counted-fails c p left ds new quota Memory some cost says = tt

-- ---- one read

-- where a run stands when a read is recorded, and its rows aren't counted yet
abbrev pub recorded : Progress → Vec Interval Global → Progress
recorded p reads = record { puts = p.puts; reads = reads; counts = record (p.counts) { ranges = p.counts.ranges + 1 } }

-- the end of what comes after a read
abbrev joined : List Interval → Interval → Played → End
joined front consumed rest = record { reply = rest.reply; puts = rest.puts; reads = front ++ consumed ∷ map in_bytes rest.reads; cost = rest.cost }

abbrev with_front : List Interval → Played → End
with_front front rest = record { reply = rest.reply; puts = rest.puts; reads = front ++ map in_bytes rest.reads; cost = rest.cost }

-- a read where a range is left, or isn't
abbrev asking : (question : Left → Ask) → Left → Counts → (List Doc → Counts → Course) → Bool → Course
asking question left k next b = elim b [
  | true ↦ ask (question left) (λ ds. counted left ds (record k { ranges = k.ranges + 1 }) next)
  | false ↦ fail {A = List Doc} (codes "RangeLimit") k next
]

-- the read in terms of the limits
abbrev within_limits : (question : Left → Ask) → Counts → (List Doc → Counts → Course) → Limits → Course
within_limits question k next limits =
    asking question (record { cost = limits.cost - k.cost; rows = limits.rows - k.rows; size = limits.size - k.size }) k next (nat_lt k.ranges limits.ranges)

pub read-reaches : (c : Context) (n : ℕ) (p : Progress) (reads : Vec Interval Global) (question : Left → Ask) (left : Left) (docs : List Doc) (consumed : Interval)
    → left ≡ left_in c p.counts → nat_lt p.counts.ranges c.limits.ranges ≡ true → Answered c p (question left) docs consumed → reads.items ≡ p.reads.items ++ consumed ∷ []
    → Reaches c p (recorded p reads) (read (site_at c n) question) (counted left docs)
read-reaches c n p reads question left docs consumed left_is below answered reads_are = record {
  by = λ next.
      let k = counts_of p.counts in
      let rest : List Doc → Played = λ ds. played c.schema.now c.base.now p.puts.items (counted left ds (record k { ranges = k.ranges + 1 }) next) in
      ap (λ (limits : Limits). end_of c p (within_limits question k next limits)) (site_limits c n)
      ∙ ap (λ b. end_of c p (asking question (left_in c p.counts) k next b)) below
      ∙ ap (λ l. end_of c p (asking question l k next true)) (sym left_is)
      ∙ ap (λ ds. joined p.reads.items (in_bytes ((answer c.schema.now (with_puts p.puts.items c.base.now) (question left)).consumed)) (rest ds)) answered.docs_are
      ∙ ap (λ i. joined p.reads.items i (rest docs)) answered.consumed_is
      ∙ ap (λ l. record (joined p.reads.items consumed (rest docs)) { reads = l }) (sym (append_assoc p.reads.items (consumed ∷ []) (map in_bytes (rest docs).reads)))
      ∙ ap (λ (front : List Interval). with_front front (rest docs)) (sym reads_are);
}

-- where no range is left
pub read-refused : (c : Context) (n : ℕ) (p : Progress) (question : Left → Ask) (fault : Fault) → nat_lt p.counts.ranges c.limits.ranges ≡ false → Says fault (codes "RangeLimit") → Fails c p p (read (site_at c n) question) fault
read-refused c n p question fault over says =
    let reaches : Reaches c p p (read (site_at c n) question) (fail (codes "RangeLimit")) = record {
      by = λ next.
          ap (λ (limits : Limits). end_of c p (within_limits question (counts_of p.counts) next limits)) (site_limits c n)
          ∙ ap (λ b. end_of c p (asking question (left_in c p.counts) (counts_of p.counts) next b)) over;
    } in
    reached_fails p fault reaches (fail_fails (List Doc) c p fault (codes "RangeLimit") says)

-- ---- errors handed on

-- the exit of a `?` hands the error on as it is
pub passed_on : {T : Type 0} (r : Result T Fault) (e : Fault) (P : Fault → Type 0) → IsErrAnd r (λ f. f ≡ e) → P e → IfErr r P
passed_on (Ok x) e P h k = tt
passed_on (Err f) e P h k = subst P (sym h) k

-- ---- what an operation gave

no_value : (e : OpFault) (w : Val) → Tells (Err e) (Ok w) → ⊥
no_value op_fault.Memory w h = cc
no_value op_fault.Type_ w h = h
no_value op_fault.Overflow w h = h
no_value op_fault.DivisionByZero w h = h
no_value op_fault.NoField w h = h
no_value op_fault.OutOfRange w h = h
no_value op_fault.BadName w h = h
no_value op_fault.TooDeep w h = h
no_value op_fault.TooMany w h = h
no_value op_fault.TooLarge w h = h

pub told-fault : (c : Context) (p : Progress) (e : OpFault) (f : Fault) → Tells (Err e) (Err f) → Fails c p p (given (Err e)) f
told-fault c p op_fault.Memory Memory h = tt
told-fault c p op_fault.Memory (Failed why) h = cc
told-fault c p op_fault.Type_ f h = fail_fails Value c p f (op_text op_fault.Type_) h
told-fault c p op_fault.Overflow f h = fail_fails Value c p f (op_text op_fault.Overflow) h
told-fault c p op_fault.DivisionByZero f h = fail_fails Value c p f (op_text op_fault.DivisionByZero) h
told-fault c p op_fault.NoField f h = fail_fails Value c p f (op_text op_fault.NoField) h
told-fault c p op_fault.OutOfRange f h = fail_fails Value c p f (op_text op_fault.OutOfRange) h
told-fault c p op_fault.BadName f h = fail_fails Value c p f (op_text op_fault.BadName) h
told-fault c p op_fault.TooDeep f h = fail_fails Value c p f (op_text op_fault.TooDeep) h
told-fault c p op_fault.TooMany f h = fail_fails Value c p f (op_text op_fault.TooMany) h
told-fault c p op_fault.TooLarge f h = fail_fails Value c p f (op_text op_fault.TooLarge) h

pub told-gives : (c : Context) (p : Progress) (r : Result Val OpFault) (s : Result Val Fault) (g : Given) → IsWithin 0 c p.counts
    → IfOk r (λ w. g ≡ Ok (tree w)) → Tells r s → IfOk s (λ w. Gives c p p (given g) (tree w))
told-gives c p (Ok v) (Ok w) g within is tells = subst (λ (x : Given). Gives c p p (given x) (tree w)) (ap (λ x. Ok (tree x)) tells ∙ sym is) (gave_pure (tree w) within)
told-gives c p r (Err f) g within is tells = tt
told-gives c p (Err e) (Ok w) g within is tells = let no : ⊥ = no_value e w tells in elim no [ ]

pub told-fails : (c : Context) (p : Progress) (r : Result Val OpFault) (s : Result Val Fault) (g : Given)
    → IfErr r (λ e. g ≡ Err e) → Tells r s → IfErr s (λ f. Fails c p p (given g) f)
told-fails c p r (Ok w) g is tells = tt
told-fails c p (Ok v) (Err f) g is tells = elim tells [ ]
told-fails c p (Err e) (Err f) g is tells = subst (λ (x : Given). Fails c p p (given x) f) (sym is) (told-fault c p e f tells)

-- ---- ids

pub id-is : (c : Context) (n : ℕ) (v : Val) (text : List ℕ) (o : Option DocId) → v ≡ Str text → o ≡ id_in c.schema.now (read_id text) → or_fail (codes "BadId") o ≡ as_id (site_at c n) (tree v)
id-is c n v text o is found = sym (ap (λ x. as_id (site_at c n) (tree x)) is ∙ ap (λ schema. or_fail (codes "BadId") (id_in schema (read_id text))) (site_schema c n) ∙ ap (or_fail (codes "BadId")) (sym found))

-- ---- intervals

pub stands-some : (o : Option PlaceInterval) (i : Interval) → StandsFor o (Some i) → (p : PlaceInterval) × (o ≡ Some p) × Stands p i
stands-some None i h = elim h [ ]
stands-some (Some p) i h = (p, refl, h)

pub stands-none : (o : Option PlaceInterval) → StandsFor o None → o ≡ None
stands-none None h = refl
stands-none (Some p) h = elim h [ ]

interval-is : (c : Context) (n : ℕ) (table index : List ℕ) (bounds : List (CompareOp × Value)) (o : Option PlaceInterval) → interval_of c.schema.now table index bounds ≡ o
    → or_type_error (interval_of (site_at c n).schema table index bounds) ≡ or_type_error o
interval-is c n table index bounds o is = ap (λ schema. or_type_error (interval_of schema table index bounds)) (site_schema c n) ∙ ap or_type_error is

-- the interval of a scan is there
pub interval-given : (c : Context) (n : ℕ) (p : Progress) (table index : List ℕ) (bounds : List (CompareOp × Value)) (i : PlaceInterval) → IsWithin 0 c p.counts
    → interval_of c.schema.now table index bounds ≡ Some i → Gives c p p (or_type_error (interval_of (site_at c n).schema table index bounds)) i
interval-given c n p table index bounds i within is =
    subst (λ (action : Action PlaceInterval). Gives c p p action i) (sym (interval-is c n table index bounds (Some i) is)) (gave_pure i within)

-- or it isn't
pub interval-refused : (c : Context) (n : ℕ) (p : Progress) (table index : List ℕ) (bounds : List (CompareOp × Value)) (f : Fault)
    → interval_of c.schema.now table index bounds ≡ None → Says f (codes "TypeError") → Fails c p p (or_type_error (interval_of (site_at c n).schema table index bounds)) f
interval-refused c n p table index bounds f is says =
    subst (λ (action : Action PlaceInterval). Fails c p p action f) (sym (interval-is c n table index bounds None is)) (fail_fails PlaceInterval c p f (codes "TypeError") says)

abbrev of_order : List (CompareOp × Value) → (t n : ℕ) → Option Index → Option PlaceInterval
of_order bounds t n o = option_and_then (λ order. bounded_in order t n bounds) o

abbrev of_index : List (CompareOp × Value) → (t : ℕ) → Table → Option ℕ → Option PlaceInterval
of_index bounds t found o = option_and_then (λ n. of_order bounds t n (slice_get found.indexes n)) o

abbrev of_found : (index : List ℕ) → List (CompareOp × Value) → (t : ℕ) → Option Table → Option PlaceInterval
of_found index bounds t o = option_and_then (λ (found : Table). of_index bounds t found (index_number found index)) o

abbrev of_table : Schema → (index : List ℕ) → List (CompareOp × Value) → Option ℕ → Option PlaceInterval
of_table schema index bounds o = option_and_then (λ t. of_found index bounds t (slice_get schema.tables t)) o

-- the interval by the numbers of the table and the index
pub interval-there : (schema : Schema) (table index : List ℕ) (bounds : List (CompareOp × Value)) (t n : ℕ) (found : Table) (r : Result (Option Interval) NoMemory)
    → Some t ≡ table_number schema table → Some found ≡ slice_get schema.tables t → Some n ≡ index_number found index → n < length found.indexes
    → ((order : Index) → index_at schema t n ≡ Some order → IfOk r (λ i. StandsFor (bounded_in order t n bounds) i))
    → IfOk r (λ i. StandsFor (interval_of schema table index bounds) i)
interval-there schema table index bounds t n found r table_is found_is index_is below by_order = go (slice_get_cases found.indexes n).1
  where
    go : ((order : Index) × (n < length found.indexes) × (slice_get found.indexes n ≡ Some order) × (get_or found.indexes n order ≡ order)) ⊎ ((length found.indexes ≤ n) × (slice_get found.indexes n ≡ None))
        → IfOk r (λ i. StandsFor (interval_of schema table index bounds) i)
    go (inl w) =
        let there : index_at schema t n ≡ Some w.0 = ap (λ (o : Option Table). slice_get (indexes_in o) n) (sym found_is) ∙ w.2 in
        let is : bounded_in w.0 t n bounds ≡ interval_of schema table index bounds =
        sym (ap (of_table schema index bounds) (sym table_is) ∙ ap (of_found index bounds t) (sym found_is) ∙ ap (of_index bounds t found) (sym index_is) ∙ ap (of_order bounds t n) w.2) in
        subst (λ (o : Option PlaceInterval). IfOk r (λ i. StandsFor o i)) is (by_order w.0 there)
    go (inr w) = let no : ⊥ = omega (arith, w.0) in elim no [ ]
