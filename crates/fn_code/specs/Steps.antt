-- One instruction: from a state to the next one, or to a stop.
use Rattle.std.specs.Prelude.{ℕ, ◌+◌, ◌-◌, pos, negsuc, Bool, true, false, nat_le, nat_lt, if◌then◌else◌, List, [], ◌∷◌, ◌++◌, take, length, map, zip, Option, Some, None, Result, Ok, Err, slice_get, codes}
use Rattle.cv_values.specs.Docs.{doc_value}
use Rattle.cv_values.specs.Ids.{id_text, read_id}
use Rattle.cv_values.specs.Sizes.{size_of, checked}
use Rattle.cv_values.specs.Value.{Value, null, int, boolean, string, array, object, values_of, list_of, members_of, pairs_of}
use Rattle.cv_values.specs.declared.check.ValueFault.{ValueFault}
use Rattle.cv_values.specs.declared.doc.Doc.{Doc}
use Rattle.cv_values.specs.declared.ids.DocId.{DocId}
use Rattle.fn_ops.specs.Operations as ops
use Rattle.fn_ops.specs.declared.fault.OpFault.TheVariants.{Type_}
use Rattle.fn_tree.specs.Actions.{Counts, Limits, op_text, value_text, quota_text}
use Rattle.fn_tree.specs.Course.{Ask, get_doc, scan_rows, gives}
use Rattle.fn_tree.specs.Meaning.{throw_text}
use Rattle.fn_tree.specs.Operators.{unary_value, eager_value, builtin_value}
use Rattle.fn_tree.specs.Reading.{id_in, first_of, doc_or_null, bounded}
use Rattle.fn_tree.specs.Scan.{passed, rows_size, doc_size}
use Rattle.fn_tree.specs.Writing.{with_members}
use Rattle.fn_tree.specs.declared.start.Origin.{Origin}
use Rattle.fn_tree.specs.declared.stop.Left.{Left}
use Rattle.fn_tree.specs.declared.stop.Put.{Put}
use Rattle.fn_tree.specs.declared.syntax.CompareOp.{CompareOp}
use Rattle.fn_code.specs.Operands.{operand, operands, popped, stored}
use Rattle.fn_code.specs.States.{Frame, State, Next, on, asks, puts, ends, fails}
use Rattle.fn_code.specs.declared.code.Code.{Code}
use Rattle.fn_code.specs.declared.code.Entry.{Entry}
use Rattle.fn_code.specs.declared.code.Instr.{Instr}
use Rattle.fn_code.specs.declared.code.Instr.TheVariants as instr

-- what a run goes by besides its code
pub record Terms : Type 0 where
  pub limits : Limits
  pub origin : Option Origin

-- ---- states

-- the frame at the next instruction, with this stack
abbrev pub behind : Frame → List Value → Frame
behind f stack = record f { at = f.at + 1; stack = stack }

-- the frame behind so many instructions more
abbrev pub skipped : ℕ → Frame → List Value → Frame
skipped n f stack = record f { at = f.at + 1 + n; stack = stack }

abbrev pub goes : State → Frame → Next
goes s f = on (record s { frame = f })

abbrev pub pushes : State → Value → List Value → Next
pushes s v stack = goes s (behind s.frame (v ∷ stack))

-- a stack or a variable lacks what the instruction takes; no code of a module does this
abbrev pub stuck : State → Next
stuck s = fails s.counts (codes "TypeError")

abbrev pub pushes_given : State → ops.Given → List Value → Next
pushes_given s (Ok v) stack = pushes s v stack
pushes_given s (Err e) stack = fails s.counts (op_text e)

-- ---- values

abbrev pub on_one : State → (Value → ops.Given) → Option (Value × List Value) → Next
on_one s op None = stuck s
on_one s op (Some v) = pushes_given s (op v.0) v.1

abbrev pub on_many : State → (List Value → ops.Given) → Option (List Value × List Value) → Next
on_many s op None = stuck s
on_many s op (Some vs) = pushes_given s (op vs.0) vs.1

-- an operation of two operands on a list of two
abbrev pub on_pair : (Value → Value → ops.Given) → List Value → ops.Given
on_pair op (v ∷ w ∷ []) = op v w
on_pair op vs = Err Type_

-- ---- cost, jumps and loops

abbrev pub spends : Terms → State → (State → Next) → Next
spends t s next =
    let c : Counts = record s.counts { cost = s.counts.cost + 1 } in
    elim (nat_le c.cost t.limits.cost) [ true ↦ next (record s { counts = c }) | false ↦ fails c (codes "CostLimit") ]

abbrev pub branches : State → ℕ → List Value → Next
branches s n (boolean true ∷ stack) = goes s (behind s.frame stack)
branches s n (boolean false ∷ stack) = goes s (skipped n s.frame stack)
branches s n stack = stuck s

abbrev pub decides : State → (wanted : Bool) → ℕ → List Value → Next
decides s true n (boolean true ∷ stack) = goes s (skipped n s.frame (boolean true ∷ stack))
decides s false n (boolean false ∷ stack) = goes s (skipped n s.frame (boolean false ∷ stack))
decides s wanted n (boolean x ∷ stack) = goes s (behind s.frame stack)
decides s wanted n stack = stuck s

abbrev pub is_truth : State → List Value → Next
is_truth s (boolean x ∷ stack) = pushes s (boolean x) stack
is_truth s stack = stuck s

-- the greatest number of rows, where there is one
abbrev pub limit_in : Value → Result (Option ℕ) (List ℕ)
limit_in (int (pos n)) = Ok (if nat_le n 4294967295 then Some n else None)
limit_in (int (negsuc n)) = Err (codes "OutOfRange")
limit_in v = Err (codes "TypeError")

abbrev pub is_limit : State → Value → List Value → Result (Option ℕ) (List ℕ) → Next
is_limit s v stack (Ok limit) = pushes s v stack
is_limit s v stack (Err why) = fails s.counts why

abbrev pub begins_loop : State → List Value → Next
begins_loop s (array vs ∷ stack) = goes s (record (behind s.frame stack) { loops = list_of vs ∷ s.frame.loops })
begins_loop s stack = stuck s

-- an item left begins one turn more, so many instructions before; else the loop is over
abbrev pub turns_loop : Terms → State → ℕ → List (List Value) → Next
turns_loop t s n [] = stuck s
turns_loop t s n ([] ∷ loops) = goes s (record (behind s.frame s.frame.stack) { loops = loops })
turns_loop t s n ((v ∷ vs) ∷ loops) =
    spends t s (λ s. goes s (record s.frame { at = s.frame.at - n; vars = s.frame.vars ++ v ∷ []; loops = vs ∷ loops }))

-- ---- functions

abbrev pub calls : State → (entry : ℕ) → Option (List Value × List Value) → Next
calls s entry None = stuck s
calls s entry (Some vs) = on (record {
  frame = record { at = entry; vars = vs.0; stack = []; loops = [] };
  callers = behind s.frame vs.1 ∷ s.callers;
  counts = s.counts;
})

-- the reply, unless it is too large
abbrev pub replies : Terms → Counts → Value → Next
replies t c v = elim (nat_le (size_of v) t.limits.reply) [
  | true ↦ ends (record { reply = gives v; cost = c.cost })
  | false ↦ fails c (codes "TooLarge")
]

-- a value is given to the caller, or is the reply
abbrev pub returns : Terms → Counts → List Frame → Value → Next
returns t c [] v = replies t c v
returns t c (f ∷ callers) v = on (record { frame = record f { stack = v ∷ f.stack }; callers = callers; counts = c })

abbrev pub throws : State → List Value → Next
throws s (string text ∷ stack) = fails s.counts (throw_text text)
throws s stack = stuck s

-- ---- reads

abbrev pub left_of : Terms → Counts → Left
left_of t c = record { cost = t.limits.cost - c.cost; rows = t.limits.rows - c.rows; size = t.limits.size - c.size }

-- one read: the state stays at the instruction, until the rows come
abbrev pub reads : Terms → State → (Left → Ask) → Next
reads t s question = elim (nat_lt s.counts.ranges t.limits.ranges) [
  | true ↦ asks (question (left_of t s.counts)) (record s { counts = record s.counts { ranges = s.counts.ranges + 1 } })
  | false ↦ fails s.counts (codes "RangeLimit")
]

abbrev pub reads_found : Terms → State → Option DocId → Next
reads_found t s None = fails s.counts (codes "BadId")
reads_found t s (Some id) = reads t s (get_doc id)

-- the document of an id is read
abbrev pub reads_id : Terms → Code → State → Value → Next
reads_id t code s (string text) = reads_found t s (id_in code.schema (read_id text))
reads_id t code s v = stuck s

abbrev pub scans_up_to : Terms → State → (table index : ℕ) → List CompareOp → (desc : Bool) → Option (List Value × List Value) → Result (Option ℕ) (List ℕ) → Next
scans_up_to t s table index ops desc values (Err why) = fails s.counts why
scans_up_to t s table index ops desc None (Ok limit) = stuck s
scans_up_to t s table index ops desc (Some vs) (Ok limit) = reads t s (scan_rows (bounded table index (zip ops vs.0)) desc limit)

-- the limit of a scan, and the stack under it
abbrev pub limit_on : (limited : Bool) → List Value → Result (Option ℕ) (List ℕ)
limit_on false stack = Ok None
limit_on true [] = Err (codes "TypeError")
limit_on true (v ∷ stack) = limit_in v

abbrev pub under_limit : (limited : Bool) → List Value → List Value
under_limit false stack = stack
under_limit true [] = []
under_limit true (v ∷ stack) = stack

abbrev pub scans : Terms → State → (table index : ℕ) → List CompareOp → (desc limited : Bool) → List Value → Next
scans t s table index ops desc limited stack =
    scans_up_to t s table index ops desc (popped (length ops) [] (under_limit limited stack)) (limit_on limited stack)

-- ---- writes

abbrev pub writes : Terms → State → (size : ℕ) → Put → State → Next
writes t s size p after =
    let c : Counts = record s.counts { writes = s.counts.writes + 1; written = s.counts.written + size } in
    elim (nat_lt s.counts.writes t.limits.writes) [
      | false ↦ fails s.counts (codes "WriteLimit")
      | true ↦ elim (nat_le c.written t.limits.written) [
        | false ↦ fails s.counts (codes "WriteSizeLimit")
        | true ↦ puts p (record after { counts = c })
      ]
    ]

abbrev pub stores_checked : Terms → State → (old : Option Doc) → (new : Doc) → State → Result (Unit {0}) ValueFault → Next
stores_checked t s old new after (Ok u) = writes t s (doc_size new) (record { id = new.id; old = old; new = Some new }) after
stores_checked t s old new after (Err e) = fails s.counts (value_text e)

abbrev pub stores : Terms → State → (old : Option Doc) → (new : Doc) → (value : Value) → (stack : List Value) → Next
stores t s old new value stack =
    stores_checked t s old new (record s { frame = behind s.frame (value ∷ stack) }) (checked true (object (members_of new.fields)))

abbrev pub inserts : Terms → State → (table : ℕ) → Option Origin → List Value → Next
inserts t s table (Some o) (object ms ∷ stack) =
    let id : DocId = record { table = table; session = o.session; request = o.request; ordinal = s.counts.inserts } in
    let begun : State = record s { counts = record s.counts { inserts = s.counts.inserts + 1 } } in
    stores t begun None (record { id = id; creation = o.now; fields = pairs_of ms }) (string (id_text id)) stack
inserts t s table o stack = stuck s

-- the reading part of a change: the object is on top, the id under it
abbrev pub begins_change : Terms → Code → State → Option Origin → List Value → Next
begins_change t code s (Some o) (object ms ∷ id ∷ stack) = reads_id t code s id
begins_change t code s (Some o) (w ∷ string text ∷ stack) = elim (id_in code.schema (read_id text)) [ None ↦ fails s.counts (codes "BadId") | Some id ↦ stuck s ]
begins_change t code s o stack = stuck s

abbrev pub begins_delete : Terms → Code → State → Option Origin → List Value → Next
begins_delete t code s (Some o) (id ∷ stack) = reads_id t code s id
begins_delete t code s o stack = stuck s

abbrev pub gives_now : State → Option Origin → Next
gives_now s None = stuck s
gives_now s (Some o) = pushes s (int o.now) s.frame.stack

-- ---- one instruction

abbrev pub loads : State → Option Value → Next
loads s None = stuck s
loads s (Some v) = pushes s v s.frame.stack

-- what is done with the value on top
abbrev pub on_top : State → (Value → List Value → Next) → List Value → Next
on_top s f [] = stuck s
on_top s f (v ∷ stack) = f v stack

abbrev pub call_at : State → (arguments : ℕ) → Option Entry → Next
call_at s arguments None = stuck s
call_at s arguments (Some e) = calls s e.at (popped arguments [] s.frame.stack)

abbrev pub step_by : Terms → Code → State → Instr → Next
step_by t code s instr.Spend = spends t s (λ s. goes s (behind s.frame s.frame.stack))
step_by t code s (instr.Int n) = pushes s (int n) s.frame.stack
step_by t code s (instr.Str text) = pushes s (string text) s.frame.stack
step_by t code s (instr.Truth b) = pushes s (boolean b) s.frame.stack
step_by t code s instr.Null = pushes s null s.frame.stack
step_by t code s (instr.Load n) = loads s (slice_get s.frame.vars n)
step_by t code s instr.Declare = on_top s (λ v stack. goes s (record (behind s.frame stack) { vars = s.frame.vars ++ v ∷ [] })) s.frame.stack
step_by t code s (instr.Store n) = on_top s (λ v stack. goes s (record (behind s.frame stack) { vars = stored n v s.frame.vars })) s.frame.stack
step_by t code s instr.Discard = on_top s (λ v stack. goes s (behind s.frame stack)) s.frame.stack
step_by t code s (instr.Forget n) = goes s (record (behind s.frame s.frame.stack) { vars = take n s.frame.vars })
step_by t code s (instr.Jump n) = goes s (skipped n s.frame s.frame.stack)
step_by t code s (instr.Branch n) = branches s n s.frame.stack
step_by t code s (instr.Decide wanted n) = decides s wanted n s.frame.stack
step_by t code s instr.AsTruth = is_truth s s.frame.stack
step_by t code s instr.Items = begins_loop s s.frame.stack
step_by t code s (instr.Turn n) = turns_loop t s n s.frame.loops
step_by t code s (instr.Call n arguments) = spends t s (λ s. call_at s arguments (slice_get code.entries n))
step_by t code s instr.Return = on_top s (λ v stack. returns t s.counts s.callers v) s.frame.stack
step_by t code s instr.Throw = throws s s.frame.stack
step_by t code s instr.Fail = stuck s
step_by t code s (instr.Array n) = on_many s ops.array_of (popped n [] s.frame.stack)
step_by t code s (instr.Object names) = on_many s (λ vs. ops.object_of (with_members (zip names vs) [])) (popped (length names) [] s.frame.stack)
step_by t code s (instr.Builtin b sources) = on_many s (builtin_value b) (operands sources s.frame.vars s.frame.stack)
step_by t code s (instr.Field source name) = on_one s (λ v. ops.field v name) (operand source s.frame.vars s.frame.stack)
step_by t code s (instr.Item a i) = on_many s (on_pair ops.item) (operands (a ∷ i ∷ []) s.frame.vars s.frame.stack)
step_by t code s (instr.Unary op source) = on_one s (unary_value op) (operand source s.frame.vars s.frame.stack)
step_by t code s (instr.Binary op a b) = on_many s (on_pair (eager_value op)) (operands (a ∷ b ∷ []) s.frame.vars s.frame.stack)
step_by t code s (instr.Scan table index bounds desc limited) = scans t s table index bounds desc limited s.frame.stack
step_by t code s instr.AsLimit = on_top s (λ v stack. is_limit s v stack (limit_in v)) s.frame.stack
step_by t code s instr.Get = on_top s (λ v stack. reads_id t code s v) s.frame.stack
step_by t code s instr.Now = gives_now s t.origin
step_by t code s (instr.Insert table) = inserts t s table t.origin s.frame.stack
step_by t code s instr.Delete = begins_delete t code s t.origin s.frame.stack
step_by t code s instr.Patch = begins_change t code s t.origin s.frame.stack
step_by t code s instr.Replace = begins_change t code s t.origin s.frame.stack

-- behind the last instruction of a code there is nothing to do
abbrev pub step_at : Terms → Code → State → Option Instr → Next
step_at t code s None = stuck s
step_at t code s (Some i) = step_by t code s i

abbrev pub step : Terms → Code → State → Next
step t code s = step_at t code s (slice_get code.instrs s.frame.at)

-- ---- the rows of a read

abbrev pub gets : State → List Doc → List Value → Next
gets s ds [] = stuck s
gets s ds (v ∷ stack) = pushes_given s (ops.made (doc_or_null (first_of ds))) stack

abbrev pub gives_rows : State → List Doc → Option (List Value × List Value) → Next
gives_rows s ds None = stuck s
gives_rows s ds (Some vs) = pushes_given s (ops.made (array (values_of (map doc_value ds)))) vs.1

-- a document is changed under the id that asked for it
abbrev pub under_id : State → Option DocId → (DocId → Next) → Next
under_id s None next = stuck s
under_id s (Some id) next = next id

abbrev pub changes : Terms → State → ((new old : List (List ℕ × Value)) → List (List ℕ × Value)) → Option Doc → List Value → Next
changes t s change None stack = fails s.counts (codes "NoDocument")
changes t s change (Some old) (object ms ∷ string text ∷ stack) = under_id s (read_id text) (λ id.
    stores t s (Some old) (record { id = id; creation = old.creation; fields = change (pairs_of ms) old.fields }) null stack)
changes t s change (Some old) stack = stuck s

abbrev pub deletes : Terms → State → Option Doc → List Value → Next
deletes t s None stack = fails s.counts (codes "NoDocument")
deletes t s (Some old) (string text ∷ stack) = under_id s (read_id text) (λ id.
    writes t s 0 (record { id = id; old = Some old; new = None }) (record s { frame = behind s.frame (null ∷ stack) }))
deletes t s (Some old) stack = stuck s

-- an instruction goes on with the rows of its read
abbrev pub goes_on : Terms → State → List Doc → Instr → Next
goes_on t s ds instr.Get = gets s ds s.frame.stack
goes_on t s ds (instr.Scan table index bounds desc limited) = gives_rows s ds (popped (length bounds) [] (under_limit limited s.frame.stack))
goes_on t s ds instr.Delete = deletes t s (first_of ds) s.frame.stack
goes_on t s ds instr.Patch = changes t s with_members (first_of ds) s.frame.stack
goes_on t s ds instr.Replace = changes t s (λ new old. new) (first_of ds) s.frame.stack
goes_on t s ds i = stuck s

abbrev pub goes_on_at : Terms → State → List Doc → Option Instr → Next
goes_on_at t s ds None = stuck s
goes_on_at t s ds (Some i) = goes_on t s ds i

-- the rows are counted; a quota that they pass is the error
abbrev pub answered : Terms → Code → State → List Doc → Next
answered t code s ds =
    let left = left_of t s.counts in
    let c : Counts = record s.counts { cost = s.counts.cost + length ds; rows = s.counts.rows + length ds; size = s.counts.size + rows_size ds } in
    elim (passed left (length ds) (rows_size ds)) [
      | None ↦ goes_on_at t (record s { counts = c }) ds (slice_get code.instrs s.frame.at)
      | Some quota ↦ fails c (quota_text quota)
    ]
