-- Each instruction lowers the weight of a machine's state.
use Rattle.std.proofs.Common.{◌≡◌, ℕ, ◌+◌, ◌-◌, ◌*◌, ◌<◌, ◌≤◌, Bool, true, false, List, [], ◌∷◌, ◌++◌, length, map, take, Option, Some, None, refl, sym, ap, subst, arith, zip}
use Rattle.std.proofs.lemmas.Bool.{leb-true}
use Rattle.std.proofs.lemmas.List.Sums.{sum_by-cons}
use Rattle.std.proofs.lemmas.Nat.{mul-le}
use Rattle.std.proofs.lemmas.Option.{slice_get_within}
use Rattle.std.specs.Prelude.{nat_le, nat_lt, slice_get, sum_by, codes, Result, Ok, Err}
use Rattle.cv_values.specs.Docs.{doc_value}
use Rattle.cv_values.specs.Ids.{id_text, read_id}
use Rattle.cv_values.specs.Sizes.{size_of, checked}
use Rattle.cv_values.specs.Value.{Value, null, int, boolean, string, array, object, values_of, list_of, members_of, pairs_of}
use Rattle.cv_values.specs.declared.check.ValueFault.{ValueFault}
use Rattle.cv_values.specs.declared.doc.Doc.{Doc}
use Rattle.cv_values.specs.declared.ids.DocId.{DocId}
use Rattle.fn_ops.specs.Operations as ops
use Rattle.fn_tree.specs.Actions.{Counts, quota_text}
use Rattle.fn_tree.specs.Course.{Ask, get_doc, scan_rows, gives}
use Rattle.fn_tree.specs.Operators.{unary_value, eager_value, builtin_value}
use Rattle.fn_tree.specs.Reading.{id_in, first_of, doc_or_null, bounded}
use Rattle.fn_tree.specs.Scan.{Quota, passed, rows_size, doc_size}
use Rattle.fn_tree.specs.Writing.{with_members}
use Rattle.fn_tree.specs.declared.start.Origin.{Origin}
use Rattle.fn_tree.specs.declared.stop.Left.{Left}
use Rattle.fn_tree.specs.declared.stop.Put.{Put}
use Rattle.fn_tree.specs.declared.syntax.CompareOp.{CompareOp}
use Rattle.fn_code.specs.Operands.{operand, operands, popped, stored}
use Rattle.fn_code.specs.States.{Frame, State, Next, on, asks, puts, ends, fails}
use Rattle.fn_code.specs.Steps.{Terms, behind, skipped, goes, pushes, stuck, pushes_given, on_one, on_many, on_pair, spends, branches, decides, is_truth, limit_in, is_limit, begins_loop, turns_loop, calls, returns, throws, left_of, reads, reads_found, reads_id, scans_up_to, limit_on, under_limit, writes, stores_checked, stores, inserts, begins_change, begins_delete, gives_now, loads, on_top, call_at, step_by, step_at, step, gets, gives_rows, under_id, changes, deletes, goes_on, goes_on_at, answered}
use Rattle.fn_code.specs.Weights.{frame_weight, weight, StepsFall}
use Rattle.fn_code.specs.declared.code.Code.{Code}
use Rattle.fn_code.specs.declared.code.Entry.{Entry}
use Rattle.fn_code.specs.declared.code.Instr.{Instr}
use Rattle.fn_code.specs.declared.code.Instr.TheVariants as instr

module _ (t : Terms) (code : Code) where
  -- a run goes on with less than this weight; an ask, whose rows are still to come, with no more
  abbrev pub Lowers : ℕ → Next → Type 0
  Lowers n (on s) = weight t code s < n
  Lowers n (asks q s) = weight t code s ≤ n
  Lowers n (puts p s) = weight t code s < n
  Lowers n (ends o) = Unit {0}

  lowers_more : (m n : ℕ) → m ≤ n → (x : Next) → Lowers m x → Lowers n x
  lowers_more m n le (on s) h = omega arith
  lowers_more m n le (asks q s) h = omega arith
  lowers_more m n le (puts p s) h = omega arith
  lowers_more m n le (ends o) h = tt

  -- what is left of the cost weighs
  abbrev cost_weight : ℕ → ℕ
  cost_weight cost = (t.limits.cost - cost + 1) * (length code.instrs + 2)

  cost_falls : (cost more : ℕ) → cost_weight (cost + more) ≤ cost_weight cost
  cost_falls cost more = mul-le (t.limits.cost - (cost + more) + 1) (length code.instrs + 2) (t.limits.cost - cost + 1) (length code.instrs + 2) (omega arith) (omega arith)

  -- a unit weighs more than a frame
  unit_falls : (cost : ℕ) → nat_le (cost + 1) t.limits.cost ≡ true → cost_weight cost ≡ cost_weight (cost + 1) + (length code.instrs + 2)
  unit_falls cost e =
      let below = leb-true (cost + 1) t.limits.cost e in
      let left : t.limits.cost - cost ≡ t.limits.cost - (cost + 1) + 1 = omega arith in
      subst (λ n. (n + 1) * (length code.instrs + 2) ≡ cost_weight (cost + 1) + (length code.instrs + 2)) (sym left) (omega arith)

  -- ---- what spends nothing and goes forwards

  module _ (s : State) (inside : s.frame.at < length code.instrs) where
    abbrev Lower : Next → Type 0
    Lower x = Lowers (weight t code s) x

    goes_lower : (f : Frame) → s.frame.at < f.at → Lower (goes s f)
    goes_lower f forwards = omega arith

    pushes_lower : (v : Value) (stack : List Value) → Lower (pushes s v stack)
    pushes_lower v stack = goes_lower (behind s.frame (v ∷ stack)) (omega arith)

    given_lower : (g : ops.Given) (stack : List Value) → Lower (pushes_given s g stack)
    given_lower (Ok v) stack = pushes_lower v stack
    given_lower (Err e) stack = tt

    one_lower : (f : Value → ops.Given) (x : Option (Value × List Value)) → Lower (on_one s f x)
    one_lower f None = tt
    one_lower f (Some v) = given_lower (f v.0) v.1

    many_lower : (f : List Value → ops.Given) (x : Option (List Value × List Value)) → Lower (on_many s f x)
    many_lower f None = tt
    many_lower f (Some vs) = given_lower (f vs.0) vs.1

    load_lower : (x : Option Value) → Lower (loads s x)
    load_lower None = tt
    load_lower (Some v) = pushes_lower v s.frame.stack

    now_lower : (o : Option Origin) → Lower (gives_now s o)
    now_lower None = tt
    now_lower (Some o) = pushes_lower (int o.now) s.frame.stack

    top_lower : (f : Value → List Value → Next) → ((v : Value) (stack : List Value) → Lower (f v stack)) → (stack : List Value) → Lower (on_top s f stack)
    top_lower f lower [] = tt
    top_lower f lower (v ∷ stack) = lower v stack

    branch_lower : (n : ℕ) (stack : List Value) → Lower (branches s n stack)
    branch_lower n (boolean true ∷ stack) = goes_lower (behind s.frame stack) (omega arith)
    branch_lower n (boolean false ∷ stack) = goes_lower (skipped n s.frame stack) (omega arith)
    branch_lower n stack = tt

    decide_lower : (wanted : Bool) (n : ℕ) (stack : List Value) → Lower (decides s wanted n stack)
    decide_lower true n (boolean true ∷ stack) = goes_lower (skipped n s.frame (boolean true ∷ stack)) (omega arith)
    decide_lower true n (boolean false ∷ stack) = goes_lower (behind s.frame stack) (omega arith)
    decide_lower false n (boolean true ∷ stack) = goes_lower (behind s.frame stack) (omega arith)
    decide_lower false n (boolean false ∷ stack) = goes_lower (skipped n s.frame (boolean false ∷ stack)) (omega arith)
    decide_lower wanted n stack = tt

    truth_lower : (stack : List Value) → Lower (is_truth s stack)
    truth_lower (boolean x ∷ stack) = pushes_lower (boolean x) stack
    truth_lower stack = tt

    limit_lower : (v : Value) (stack : List Value) (x : Result (Option ℕ) (List ℕ)) → Lower (is_limit s v stack x)
    limit_lower v stack (Ok limit) = pushes_lower v stack
    limit_lower v stack (Err why) = tt

    items_lower : (stack : List Value) → Lower (begins_loop s stack)
    items_lower (array vs ∷ stack) = goes_lower (record (behind s.frame stack) { loops = list_of vs ∷ s.frame.loops }) (omega arith)
    items_lower stack = tt

    throw_lower : (stack : List Value) → Lower (throws s stack)
    throw_lower (string text ∷ stack) = tt
    throw_lower stack = tt

    -- ---- what gives a value back: the frame is gone

    return_lower : (callers : List Frame) → s.callers ≡ callers → (v : Value) → Lower (returns t s.counts callers v)
    return_lower [] e v = go (nat_le (size_of v) t.limits.reply)
      where
        go : (b : Bool) → Lower (elim b [ true ↦ ends (record { reply = gives v; cost = s.counts.cost }) | false ↦ fails s.counts (codes "TooLarge") ])
        go true = tt
        go false = tt
    return_lower (f ∷ callers) e v =
        let more = ap (λ (fs : List Frame). sum_by (frame_weight code) fs) e in
        let first = sum_by-cons (frame_weight code) f callers in omega arith

    -- ---- reads

    read_lower : (question : Left → Ask) → Lower (reads t s question)
    read_lower question = go (nat_lt s.counts.ranges t.limits.ranges)
      where
        go : (b : Bool) → Lower (elim b [
          | true ↦ asks (question (left_of t s.counts)) (record s { counts = record s.counts { ranges = s.counts.ranges + 1 } })
          | false ↦ fails s.counts (codes "RangeLimit")
        ])
        go true = omega arith
        go false = tt

    id_lower : (v : Value) → Lower (reads_id t code s v)
    id_lower (string text) = go (id_in code.schema (read_id text))
      where
        go : (x : Option DocId) → Lower (reads_found t s x)
        go None = tt
        go (Some id) = read_lower (get_doc id)
    id_lower v = tt

    scan_lower : (table index : ℕ) (bounds : List CompareOp) (desc : Bool) (values : Option (List Value × List Value)) (limit : Result (Option ℕ) (List ℕ)) →
        Lower (scans_up_to t s table index bounds desc values limit)
    scan_lower table index bounds desc values (Err why) = tt
    scan_lower table index bounds desc None (Ok limit) = tt
    scan_lower table index bounds desc (Some vs) (Ok limit) = read_lower (scan_rows (bounded table index (zip bounds vs.0)) desc limit)

    -- ---- writes

    write_lower : (size : ℕ) (p : Put) (f : Frame) → s.frame.at < f.at → Lower (writes t s size p (record s { frame = f }))
    write_lower size p f forwards = go (nat_lt s.counts.writes t.limits.writes) (nat_le c.written t.limits.written)
      where
        c : Counts
        c = record s.counts { writes = s.counts.writes + 1; written = s.counts.written + size }

        go : (a b : Bool) → Lower (elim a [
          | false ↦ fails s.counts (codes "WriteLimit")
          | true ↦ elim b [ false ↦ fails s.counts (codes "WriteSizeLimit") | true ↦ puts p (record s { frame = f; counts = c }) ]
        ])
        go false b = tt
        go true false = tt
        go true true = omega arith

    store_lower : (old : Option Doc) (new : Doc) (value : Value) (stack : List Value) → Lower (stores t s old new value stack)
    store_lower old new value stack = go (checked true (object (members_of new.fields)))
      where
        go : (x : Result (Unit {0}) ValueFault) → Lower (stores_checked t s old new (record s { frame = behind s.frame (value ∷ stack) }) x)
        go (Ok u) = write_lower (doc_size new) (record { id = new.id; old = old; new = Some new }) (behind s.frame (value ∷ stack)) (omega arith)
        go (Err e) = tt

    change_begins_lower : (o : Option Origin) (stack : List Value) → Lower (begins_change t code s o stack)
    change_begins_lower (Some o) (object ms ∷ id ∷ stack) = id_lower id
    change_begins_lower (Some o) (w ∷ string text ∷ stack) = go (id_in code.schema (read_id text))
      where
        go : (x : Option DocId) → Lower (elim x [ None ↦ fails s.counts (codes "BadId") | Some id ↦ stuck s ])
        go None = tt
        go (Some id) = tt
    change_begins_lower o stack = tt

    delete_begins_lower : (o : Option Origin) (stack : List Value) → Lower (begins_delete t code s o stack)
    delete_begins_lower (Some o) (id ∷ stack) = id_lower id
    delete_begins_lower o stack = tt

    -- ---- behind the rows of a read

    get_lower : (ds : List Doc) (stack : List Value) → Lower (gets s ds stack)
    get_lower ds [] = tt
    get_lower ds (v ∷ stack) = given_lower (ops.made (doc_or_null (first_of ds))) stack

    rows_lower : (ds : List Doc) (x : Option (List Value × List Value)) → Lower (gives_rows s ds x)
    rows_lower ds None = tt
    rows_lower ds (Some vs) = given_lower (ops.made (array (values_of (map doc_value ds)))) vs.1

    under_lower : (x : Option DocId) (next : DocId → Next) → ((id : DocId) → Lower (next id)) → Lower (under_id s x next)
    under_lower None next lower = tt
    under_lower (Some id) next lower = lower id

    change_lower : (change : (new old : List (List ℕ × Value)) → List (List ℕ × Value)) (old : Option Doc) (stack : List Value) → Lower (changes t s change old stack)
    change_lower change None stack = tt
    change_lower change (Some old) (object ms ∷ string text ∷ stack) = under_lower (read_id text) _
        (λ id. store_lower (Some old) (record { id = id; creation = old.creation; fields = change (pairs_of ms) old.fields }) null stack)
    change_lower change (Some old) stack = tt

    delete_lower : (old : Option Doc) (stack : List Value) → Lower (deletes t s old stack)
    delete_lower None stack = tt
    delete_lower (Some old) (string text ∷ stack) = under_lower (read_id text) _
        (λ id. write_lower 0 (record { id = id; old = Some old; new = None }) (behind s.frame (null ∷ stack)) (omega arith))
    delete_lower (Some old) stack = tt

    rows_go_on : (ds : List Doc) (i : Instr) → Lower (goes_on t s ds i)
    rows_go_on ds instr.Get = get_lower ds s.frame.stack
    rows_go_on ds (instr.Scan table index bounds desc limited) = rows_lower ds (popped (length bounds) [] (under_limit limited s.frame.stack))
    rows_go_on ds instr.Delete = delete_lower (first_of ds) s.frame.stack
    rows_go_on ds instr.Patch = change_lower with_members (first_of ds) s.frame.stack
    rows_go_on ds instr.Replace = change_lower (λ new old. new) (first_of ds) s.frame.stack
    rows_go_on ds i = tt

  insert_lower : (s : State) → s.frame.at < length code.instrs → (table : ℕ) (o : Option Origin) (stack : List Value) → Lowers (weight t code s) (inserts t s table o stack)
  insert_lower s inside table (Some o) (object ms ∷ stack) =
      let id : DocId = record { table = table; session = o.session; request = o.request; ordinal = s.counts.inserts } in
      store_lower (record s { counts = record s.counts { inserts = s.counts.inserts + 1 } }) inside None (record { id = id; creation = o.now; fields = pairs_of ms }) (string (id_text id)) stack
  insert_lower s inside table o stack = tt

  -- ---- what spends a unit

  spends_lower : (s : State) (next : State → Next) →
      ((c : Counts) → cost_weight s.counts.cost ≡ cost_weight c.cost + (length code.instrs + 2) → Lowers (weight t code s) (next (record s { counts = c }))) →
      Lowers (weight t code s) (spends t s next)
  spends_lower s next lower = go (nat_le c.cost t.limits.cost) refl
    where
      c : Counts
      c = record s.counts { cost = s.counts.cost + 1 }

      go : (b : Bool) → nat_le c.cost t.limits.cost ≡ b → Lowers (weight t code s) (elim b [ true ↦ next (record s { counts = c }) | false ↦ fails c (codes "CostLimit") ])
      go true e = lower c (unit_falls s.counts.cost e)
      go false e = tt

  turn_lower : (s : State) → s.frame.at < length code.instrs → (n : ℕ) (loops : List (List Value)) → Lowers (weight t code s) (turns_loop t s n loops)
  turn_lower s inside n [] = tt
  turn_lower s inside n ([] ∷ loops) = goes_lower s inside (record (behind s.frame s.frame.stack) { loops = loops }) (omega arith)
  turn_lower s inside n ((v ∷ vs) ∷ loops) =
      spends_lower s (λ s. goes s (record s.frame { at = s.frame.at - n; vars = s.frame.vars ++ v ∷ []; loops = vs ∷ loops })) (λ c paid. omega arith)

  call_lower : (s : State) → s.frame.at < length code.instrs → (n arguments : ℕ) → Lowers (weight t code s) (step_by t code s (instr.Call n arguments))
  call_lower s inside n arguments = spends_lower s (λ s. call_at s arguments (slice_get code.entries n)) (λ c paid. by c paid (slice_get code.entries n))
    where
      enters : (c : Counts) → cost_weight s.counts.cost ≡ cost_weight c.cost + (length code.instrs + 2) → (entry : ℕ) (x : Option (List Value × List Value)) →
          Lowers (weight t code s) (calls (record s { counts = c }) entry x)
      enters c paid entry None = tt
      enters c paid entry (Some vs) = let more = sum_by-cons (frame_weight code) (behind s.frame vs.1) s.callers in omega arith

      by : (c : Counts) → cost_weight s.counts.cost ≡ cost_weight c.cost + (length code.instrs + 2) → (x : Option Entry) → Lowers (weight t code s) (call_at (record s { counts = c }) arguments x)
      by c paid None = tt
      by c paid (Some e) = enters c paid e.at (popped arguments [] s.frame.stack)

  -- ---- one instruction

  by_lower : (s : State) → s.frame.at < length code.instrs → (i : Instr) → Lowers (weight t code s) (step_by t code s i)
  by_lower s inside instr.Spend = spends_lower s (λ s. goes s (behind s.frame s.frame.stack)) (λ c paid. omega arith)
  by_lower s inside (instr.Int n) = pushes_lower s inside (int n) s.frame.stack
  by_lower s inside (instr.Str text) = pushes_lower s inside (string text) s.frame.stack
  by_lower s inside (instr.Truth b) = pushes_lower s inside (boolean b) s.frame.stack
  by_lower s inside instr.Null = pushes_lower s inside null s.frame.stack
  by_lower s inside (instr.Load n) = load_lower s inside (slice_get s.frame.vars n)
  by_lower s inside instr.Declare =
      top_lower s inside _ (λ v stack. goes_lower s inside (record (behind s.frame stack) { vars = s.frame.vars ++ v ∷ [] }) (omega arith)) s.frame.stack
  by_lower s inside (instr.Store n) =
      top_lower s inside _ (λ v stack. goes_lower s inside (record (behind s.frame stack) { vars = stored n v s.frame.vars }) (omega arith)) s.frame.stack
  by_lower s inside instr.Discard = top_lower s inside _ (λ v stack. goes_lower s inside (behind s.frame stack) (omega arith)) s.frame.stack
  by_lower s inside (instr.Forget n) = goes_lower s inside (record (behind s.frame s.frame.stack) { vars = take n s.frame.vars }) (omega arith)
  by_lower s inside (instr.Jump n) = goes_lower s inside (skipped n s.frame s.frame.stack) (omega arith)
  by_lower s inside (instr.Branch n) = branch_lower s inside n s.frame.stack
  by_lower s inside (instr.Decide wanted n) = decide_lower s inside wanted n s.frame.stack
  by_lower s inside instr.AsTruth = truth_lower s inside s.frame.stack
  by_lower s inside instr.Items = items_lower s inside s.frame.stack
  by_lower s inside (instr.Turn n) = turn_lower s inside n s.frame.loops
  by_lower s inside (instr.Call n arguments) = call_lower s inside n arguments
  by_lower s inside instr.Return = top_lower s inside _ (λ v stack. return_lower s inside s.callers refl v) s.frame.stack
  by_lower s inside instr.Throw = throw_lower s inside s.frame.stack
  by_lower s inside instr.Fail = tt
  by_lower s inside (instr.Array n) = many_lower s inside ops.array_of (popped n [] s.frame.stack)
  by_lower s inside (instr.Object names) = many_lower s inside (λ vs. ops.object_of (with_members (zip names vs) [])) (popped (length names) [] s.frame.stack)
  by_lower s inside (instr.Builtin b sources) = many_lower s inside (builtin_value b) (operands sources s.frame.vars s.frame.stack)
  by_lower s inside (instr.Field source name) = one_lower s inside (λ v. ops.field v name) (operand source s.frame.vars s.frame.stack)
  by_lower s inside (instr.Item a i) = many_lower s inside (on_pair ops.item) (operands (a ∷ i ∷ []) s.frame.vars s.frame.stack)
  by_lower s inside (instr.Unary op source) = one_lower s inside (unary_value op) (operand source s.frame.vars s.frame.stack)
  by_lower s inside (instr.Binary op a b) = many_lower s inside (on_pair (eager_value op)) (operands (a ∷ b ∷ []) s.frame.vars s.frame.stack)
  by_lower s inside (instr.Scan table index bounds desc limited) =
      scan_lower s inside table index bounds desc (popped (length bounds) [] (under_limit limited s.frame.stack)) (limit_on limited s.frame.stack)
  by_lower s inside instr.AsLimit = top_lower s inside _ (λ v stack. limit_lower s inside v stack (limit_in v)) s.frame.stack
  by_lower s inside instr.Get = top_lower s inside _ (λ v stack. id_lower s inside v) s.frame.stack
  by_lower s inside instr.Now = now_lower s inside t.origin
  by_lower s inside (instr.Insert table) = insert_lower s inside table t.origin s.frame.stack
  by_lower s inside instr.Delete = delete_begins_lower s inside t.origin s.frame.stack
  by_lower s inside instr.Patch = change_begins_lower s inside t.origin s.frame.stack
  by_lower s inside instr.Replace = change_begins_lower s inside t.origin s.frame.stack

  pub step_lowers : (s : State) → Lowers (weight t code s) (step t code s)
  step_lowers s = go (slice_get code.instrs s.frame.at) refl
    where
      go : (x : Option Instr) → slice_get code.instrs s.frame.at ≡ x → Lowers (weight t code s) (step_at t code s x)
      go None e = tt
      go (Some i) e = by_lower s (slice_get_within code.instrs s.frame.at i e) i

  pub answer_lowers : (s : State) (ds : List Doc) → Lowers (weight t code s) (answered t code s ds)
  answer_lowers s ds = by (passed (left_of t s.counts) (length ds) (rows_size ds))
    where
      c : Counts
      c = record s.counts { cost = s.counts.cost + length ds; rows = s.counts.rows + length ds; size = s.counts.size + rows_size ds }

      counted : State
      counted = record s { counts = c }

      less : weight t code counted ≤ weight t code s
      less = let falls = cost_falls s.counts.cost (length ds) in omega arith

      go : (x : Option Instr) → slice_get code.instrs s.frame.at ≡ x → Lowers (weight t code s) (goes_on_at t counted ds x)
      go None e = tt
      go (Some i) e = lowers_more (weight t code counted) (weight t code s) less (goes_on t counted ds i) (rows_go_on counted (slice_get_within code.instrs s.frame.at i e) ds i)

      by : (q : Option Quota) → Lowers (weight t code s) (elim q [ None ↦ goes_on_at t counted ds (slice_get code.instrs s.frame.at) | Some quota ↦ fails c (quota_text quota) ])
      by None = go (slice_get code.instrs s.frame.at) refl
      by (Some quota) = tt

pub steps_fall : StepsFall
steps_fall t code s after = (
  λ e. subst (λ (x : Next). Lowers t code (weight t code s) x) e (step_lowers t code s),
  λ ds e. subst (λ (x : Next). Lowers t code (weight t code s) x) e (answer_lowers t code s ds),
)
