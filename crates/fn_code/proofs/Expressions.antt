-- Expressions: their code puts the value onto the stack, and the machine follows the course on the way.
use Rattle.std.proofs.Common.{◌≡◌, ℕ, ◌+◌, Bool, true, false, List, [], ◌∷◌, ◌++◌, length, Option, Some, None, refl, sym, ap, ◌∙◌, subst, arith, length-append, zip, option_map}
use Rattle.std.specs.Prelude.{slice_get, codes, Ok}
use Rattle.cv_values.specs.Value.{Value, null, int, boolean, string}
use Rattle.cv_values.specs.declared.doc.Doc.{Doc}
use Rattle.fn_ops.specs.Operations as ops
use Rattle.fn_tree.specs.Actions.{Counts, Action, ◌>>=◌, Meaning, Scope, or_type_error, as_truth}
use Rattle.fn_tree.specs.Course.{Course}
use Rattle.fn_tree.specs.Meaning.{expr_means, form_means, exprs_mean, entries_mean, bounds_mean, limit_means}
use Rattle.fn_tree.specs.Names.{at_name, table_number}
use Rattle.fn_tree.specs.Operators.{unary_value, eager_value, both, right_side, either, builtin_value}
use Rattle.fn_tree.specs.Reading.{first_of}
use Rattle.fn_tree.specs.SyntaxTree.{Expr, expr, Form, integer, string as text, truth, nothing, variable, call, builtin, items, entries, group, scan, count, get, now, insert, delete, patch, replace, field, item, unary, binary, Exprs, no_exprs, then_expr, Entries, no_entries, entry, Bounds, no_bounds, bound, Limit, all_rows, up_to}
use Rattle.fn_tree.specs.Writing.{with_members, change_value}
use Rattle.fn_tree.specs.declared.start.Origin.{Origin}
use Rattle.fn_tree.specs.declared.syntax.BinaryOp.{BinaryOp}
use Rattle.fn_tree.specs.declared.syntax.BinaryOp.TheVariants.{Or, And, Compare, Add, Subtract, Multiply, Divide, Remainder}
use Rattle.fn_tree.specs.declared.syntax.Builtin.TheVariants.{Len}
use Rattle.fn_tree.specs.declared.syntax.CompareOp.{CompareOp}
use Rattle.fn_tree.specs.declared.syntax.Named.{Named}
use Rattle.fn_code.specs.CodeMeans.{Follows}
use Rattle.fn_code.specs.Coding.{Known, slot_at, form_slot, unless_slot, source_of, sources_of, load_code, call_code, insert_code, scan_code, index_for, count_of, names_of, ops_of, is_limited, expr_code, form_code, exprs_code, operands_code, entries_code, bounds_code, limit_code}
use Rattle.fn_code.specs.Operands.{operand, operands, popped}
use Rattle.fn_code.specs.States.{Frame, State, Next, on}
use Rattle.fn_code.specs.Steps.{Terms, step_by, loads, gives_now, decides, on_many, on_pair, limit_on, under_limit, begins_change, changes, goes_on}
use Rattle.fn_code.specs.declared.code.Code.{Code}
use Rattle.fn_code.specs.declared.code.Instr.{Instr}
use Rattle.fn_code.specs.declared.code.Instr.TheVariants as instr
use Rattle.fn_code.specs.declared.code.Source.TheVariants.{Top}
use Rattle.fn_code.specs.declared.known.Callee.{Callee}
use Rattle.fn_code.proofs.Calls.{AreCodes, call_follows}
use Rattle.fn_code.proofs.Places.{Stands, stands_split, stands_length, names_in, values_in, site_of, follows_step, fail_follows}
use Rattle.fn_code.proofs.ReadSteps.{get_follows, scan_follows}
use Rattle.fn_code.proofs.Slots.{SlotHas, slot_in, slot_has}
use Rattle.fn_code.proofs.Stacks.{popped_more, popped_next, operands_more}
use Rattle.fn_code.proofs.ValueSteps.{At, GoesAt, pushed_follows, one_follows, many_follow, truth_follows, limit_follows}
use Rattle.fn_code.proofs.WriteSteps.{insert_follows, change_follows, delete_follows}

-- what is known with these variables
abbrev pub knowing : Code → List (List ℕ × Callee) → List (List ℕ) → Known
knowing code callees names = record { schema = code.schema; names = names; helpers = callees }

module _ (t : Terms) (code : Code) (helpers : List (List ℕ × Meaning)) (callees : List (List ℕ × Callee)) (helped : AreCodes t code helpers callees)
    (names : List (List ℕ)) (scope : Scope) (same : names_in scope ≡ names) (loops : List (List Value)) (callers : List Frame) where
  abbrev k : Known
  k = knowing code callees names

  abbrev vars : List Value
  vars = values_in scope

  -- where the machine stands, and what goes on from there
  abbrev Here : ℕ → List Value → Counts → Next
  Here place stack c = on (At t code vars loops callers place stack c)

  abbrev There : ℕ → List Value → (Value → Counts → Course) → Type 0
  There place stack next = GoesAt t code vars loops callers place stack next

  abbrev Means : Action Value → List Instr → Type 0
  Means act is = (place behind : ℕ) (stack : List Value) → Stands code.instrs place is behind → (next : Value → Counts → Course) → There behind stack next → (c : Counts) →
      Follows t code (act c next) (Here place stack c)

  -- the code of an expression means it
  abbrev pub ExprFollows : Expr → Type 0
  ExprFollows e = Means (expr_means e (site_of t code helpers) scope) (expr_code k e)

  abbrev FormFollows : Form → Type 0
  FormFollows f = Means (form_means f (site_of t code helpers) scope) (form_code k f)

  has : (x : List ℕ) → SlotHas vars (slot_in names x) (at_name x scope)
  has x = subst (λ (ns : List (List ℕ)). SlotHas vars (slot_in ns x) (at_name x scope)) same (slot_has scope x)

  variable_follows : (x : List ℕ) → FormFollows (variable x)
  variable_follows x place behind stack h next goes c = go (slot_in names x) (at_name x scope) (has x) h
    where
      go : (a : Option ℕ) (b : Option Value) → SlotHas vars a b → Stands code.instrs place (load_code a) behind → Follows t code (or_type_error b c next) (Here place stack c)
      go None None e h = fail_follows t code (At t code vars loops callers place stack c) h.0
      go None (Some v) e h = absurd e
      go (Some n) None e h = absurd e
      go (Some n) (Some v) e h = follows_step t code (next v c) (At t code vars loops callers place stack c) (instr.Load n) h.0
          (subst (λ (y : Option Value). Follows t code (next v c) (loads (At t code vars loops callers place stack c) y)) (sym e)
          (subst (λ (n : ℕ). Follows t code (next v c) (Here n (v ∷ stack) c)) (sym h.1) (goes v c)))

  -- ---- operands

  -- an expression that is in a slot gives what the slot has, and does nothing
  abbrev IsSlot : Action Value → Option ℕ → Type 0
  IsSlot act None = Unit {0}
  IsSlot act (Some n) = (v : Value) × (slice_get vars n ≡ Some v) × ((c : Counts) (next : Value → Counts → Course) (x : Next) → Follows t code (next v c) x → Follows t code (act c next) x)

  mutual
    expr_slot : (e : Expr) → IsSlot (expr_means e (site_of t code helpers) scope) (slot_at k e)
    expr_slot (expr at f) = in_slot f

    in_slot : (f : Form) → IsSlot (form_means f (site_of t code helpers) scope) (form_slot k f)
    in_slot (variable x) = go (slot_in names x) (at_name x scope) (has x)
      where
        go : (a : Option ℕ) (b : Option Value) → SlotHas vars a b → IsSlot (or_type_error b) a
        go None None e = tt
        go None (Some v) e = tt
        go (Some n) None e = absurd e
        go (Some n) (Some v) e = (v, e, λ c next x h. h)
    in_slot (group e) = expr_slot e
    in_slot f = tt

  abbrev OperandMeans : Action Value → Option ℕ → List Instr → Type 0
  OperandMeans act slot is = (place behind : ℕ) (stack : List Value) → Stands code.instrs place (unless_slot slot is) behind → (next : Value → Counts → Course) →
      ((v : Value) (all : List Value) (c : Counts) → operand (source_of slot) vars all ≡ Some (v, stack) → Follows t code (next v c) (Here behind all c)) → (c : Counts) →
      Follows t code (act c next) (Here place stack c)

  operand_by : (act : Action Value) (is : List Instr) → Means act is → (slot : Option ℕ) → IsSlot act slot → OperandMeans act slot is
  operand_by act is means None held place behind stack h next goes c = means place behind stack h next (λ v d. goes v (v ∷ stack) d refl) c
  operand_by act is means (Some n) held place behind stack h next goes c =
      held.2 c next (Here place stack c) (subst (λ (p : ℕ). Follows t code (next held.0 c) (Here p stack c)) (sym h) (goes held.0 stack c (ap (option_map (λ (v : Value). (v, stack))) held.1)))

  operand_follows : (e : Expr) → ExprFollows e → OperandMeans (expr_means e (site_of t code helpers) scope) (slot_at k e) (expr_code k e)
  operand_follows e means = operand_by (expr_means e (site_of t code helpers) scope) (expr_code k e) means (slot_at k e) (expr_slot e)

  -- an instruction with two operands
  pair_follows : (a b : Expr) → ExprFollows a → ExprFollows b → (op : Value → Value → ops.Given) (i : Instr) →
      ((s : State) → step_by t code s i ≡ on_many s (on_pair op) (operands (source_of (slot_at k a) ∷ source_of (slot_at k b) ∷ []) s.frame.vars s.frame.stack)) →
      Means (both (expr_means a (site_of t code helpers) scope) (expr_means b (site_of t code helpers) scope) op)
      (unless_slot (slot_at k a) (expr_code k a) ++ (unless_slot (slot_at k b) (expr_code k b) ++ i ∷ []))
  pair_follows a b means_a means_b op i does place behind stack h next goes c =
      let first = stands_split code.instrs place (unless_slot (slot_at k a) (expr_code k a)) (unless_slot (slot_at k b) (expr_code k b) ++ i ∷ []) behind h in
      let second = stands_split code.instrs first.0 (unless_slot (slot_at k b) (expr_code k b)) (i ∷ []) behind first.2 in
      operand_follows a means_a place first.0 stack first.1 _ (λ v one d e.
      operand_follows b means_b first.0 second.0 one second.1 _ (λ w two f g.
      many_follow t code vars loops callers second.0 behind two stack i second.2 (on_pair op) (operands (source_of (slot_at k a) ∷ source_of (slot_at k b) ∷ []) vars two)
      (λ c. does (At t code vars loops callers second.0 two c)) (v ∷ w ∷ [])
      (operands_more (source_of (slot_at k a)) (source_of (slot_at k b) ∷ []) vars two one stack v (w ∷ []) e
      (operands_more (source_of (slot_at k b)) [] vars two two one w [] g refl)) next goes f) d) c

  -- ---- operators that may leave their right side out

  either_follows : (wanted : Bool) (a b : Expr) → ExprFollows a → ExprFollows b →
      Means (either wanted (expr_means a (site_of t code helpers) scope) (expr_means b (site_of t code helpers) scope))
      (expr_code k a ++ instr.Decide wanted (length (expr_code k b) + 1) ∷ (expr_code k b ++ instr.AsTruth ∷ []))
  either_follows wanted a b means_a means_b place behind stack h next goes c =
      means_a place first.0 stack first.1 _ (λ v d. follows_step t code (as_truth v d (λ x e. right_side wanted x right e next)) (At t code vars loops callers first.0 (v ∷ stack) d)
      (instr.Decide wanted (length (expr_code k b) + 1)) first.2.0 (decided wanted v d)) c
    where
      right : Action Value
      right = expr_means b (site_of t code helpers) scope

      first : (between : ℕ) × Stands code.instrs place (expr_code k a) between × Stands code.instrs between (instr.Decide wanted (length (expr_code k b) + 1) ∷ (expr_code k b ++ instr.AsTruth ∷ [])) behind
      first = stands_split code.instrs place (expr_code k a) (instr.Decide wanted (length (expr_code k b) + 1) ∷ (expr_code k b ++ instr.AsTruth ∷ [])) behind h

      after : first.0 + 1 + (length (expr_code k b) + 1) ≡ behind
      after = let e = stands_length code.instrs (first.0 + 1) (expr_code k b ++ instr.AsTruth ∷ []) behind first.2.1 in
          omega (arith, length-append (expr_code k b) (instr.AsTruth ∷ []))

      skips : (x : Bool) (d : Counts) → Follows t code (next (boolean x) d) (Here (first.0 + 1 + (length (expr_code k b) + 1)) (boolean x ∷ stack) d)
      skips x d = subst (λ (p : ℕ). Follows t code (next (boolean x) d) (Here p (boolean x ∷ stack) d)) (sym after) (goes (boolean x) d)

      goes_right : (d : Counts) → Follows t code (right d (λ w e. as_truth w e (λ y f. next (boolean y) f))) (Here (first.0 + 1) stack d)
      goes_right d =
          let second = stands_split code.instrs (first.0 + 1) (expr_code k b) (instr.AsTruth ∷ []) behind first.2.1 in
          means_b (first.0 + 1) second.0 stack second.1 _ (λ w e. truth_follows t code vars loops callers second.0 behind stack second.2 next goes w e) d

      decided : (wanted : Bool) (v : Value) (d : Counts) → Follows t code (as_truth v d (λ x e. right_side wanted x right e next))
          (decides (At t code vars loops callers first.0 (v ∷ stack) d) wanted (length (expr_code k b) + 1) (v ∷ stack))
      decided true (boolean true) d = skips true d
      decided true (boolean false) d = goes_right d
      decided false (boolean true) d = goes_right d
      decided false (boolean false) d = skips false d
      decided true v d = (0, refl)
      decided false v d = (0, refl)

  binary_follows : (op : BinaryOp) (a b : Expr) → ExprFollows a → ExprFollows b → FormFollows (binary op a b)
  binary_follows Or a b f g = either_follows true a b f g
  binary_follows And a b f g = either_follows false a b f g
  binary_follows (Compare op) a b f g = pair_follows a b f g (eager_value (Compare op)) (instr.Binary (Compare op) (source_of (slot_at k a)) (source_of (slot_at k b))) (λ s. refl)
  binary_follows Add a b f g = pair_follows a b f g (eager_value Add) (instr.Binary Add (source_of (slot_at k a)) (source_of (slot_at k b))) (λ s. refl)
  binary_follows Subtract a b f g = pair_follows a b f g (eager_value Subtract) (instr.Binary Subtract (source_of (slot_at k a)) (source_of (slot_at k b))) (λ s. refl)
  binary_follows Multiply a b f g = pair_follows a b f g (eager_value Multiply) (instr.Binary Multiply (source_of (slot_at k a)) (source_of (slot_at k b))) (λ s. refl)
  binary_follows Divide a b f g = pair_follows a b f g (eager_value Divide) (instr.Binary Divide (source_of (slot_at k a)) (source_of (slot_at k b))) (λ s. refl)
  binary_follows Remainder a b f g = pair_follows a b f g (eager_value Remainder) (instr.Binary Remainder (source_of (slot_at k a)) (source_of (slot_at k b))) (λ s. refl)

  now_follows : FormFollows now
  now_follows place behind stack h next goes c =
      follows_step t code (or_type_error t.origin c (λ (o : Origin) d. next (int o.now) d)) (At t code vars loops callers place stack c) instr.Now h.0 (go t.origin)
    where
      go : (x : Option Origin) → Follows t code (or_type_error x c (λ (o : Origin) d. next (int o.now) d)) (gives_now (At t code vars loops callers place stack c) x)
      go None = (0, refl)
      go (Some o) = subst (λ (p : ℕ). Follows t code (next (int o.now) c) (Here p (int o.now ∷ stack) c)) (sym h.1) (goes (int o.now) c)

  count_follows : (n : Named) → FormFollows (count n)
  count_follows n place behind stack h next goes c =
      let first = stands_split code.instrs place (scan_code (index_for code.schema n.text (codes "by_creation_time") []) [] false false) (instr.Builtin Len (Top ∷ []) ∷ []) behind h in
      scan_follows t code helpers place first.0 vars stack loops callers n.text (codes "by_creation_time") [] false false first.1 [] stack refl None refl _ (λ v d.
      many_follow t code vars loops callers first.0 behind (v ∷ stack) stack (instr.Builtin Len (Top ∷ [])) first.2 (builtin_value Len) (Some (v ∷ [], stack)) (λ e. refl) (v ∷ []) refl next goes d) c

  -- ---- several

  abbrev ExprsFollow : Exprs → Type 0
  ExprsFollow es = (place behind : ℕ) (stack : List Value) → Stands code.instrs place (exprs_code k es) behind → (next : List Value → Counts → Course) →
      ((vs all : List Value) (c : Counts) → popped (count_of es) [] all ≡ Some (vs, stack) → Follows t code (next vs c) (Here behind all c)) → (c : Counts) →
      Follows t code (exprs_mean es (site_of t code helpers) scope c next) (Here place stack c)

  abbrev OperandsFollow : Exprs → Type 0
  OperandsFollow es = (place behind : ℕ) (stack : List Value) → Stands code.instrs place (operands_code k es) behind → (next : List Value → Counts → Course) →
      ((vs all : List Value) (c : Counts) → operands (sources_of k es) vars all ≡ Some (vs, stack) → Follows t code (next vs c) (Here behind all c)) → (c : Counts) →
      Follows t code (exprs_mean es (site_of t code helpers) scope c next) (Here place stack c)

  abbrev EntriesFollow : Entries → Type 0
  EntriesFollow es = (place behind : ℕ) (stack : List Value) → Stands code.instrs place (entries_code k es) behind → (next : List (List ℕ × Value) → Counts → Course) →
      ((vs all : List Value) (c : Counts) → popped (length (names_of es)) [] all ≡ Some (vs, stack) → Follows t code (next (zip (names_of es) vs) c) (Here behind all c)) → (c : Counts) →
      Follows t code (entries_mean es (site_of t code helpers) scope c next) (Here place stack c)

  abbrev BoundsFollow : Bounds → Type 0
  BoundsFollow bs = (place behind : ℕ) (stack : List Value) → Stands code.instrs place (bounds_code k bs) behind → (next : List (CompareOp × Value) → Counts → Course) →
      ((vs all : List Value) (c : Counts) → popped (length (ops_of bs)) [] all ≡ Some (vs, stack) → Follows t code (next (zip (ops_of bs) vs) c) (Here behind all c)) → (c : Counts) →
      Follows t code (bounds_mean bs (site_of t code helpers) scope c next) (Here place stack c)

  abbrev LimitFollows : Limit → Type 0
  LimitFollows l = (place behind : ℕ) (stack : List Value) → Stands code.instrs place (limit_code k l) behind → (next : Option ℕ → Counts → Course) →
      ((limit : Option ℕ) (all : List Value) (c : Counts) → under_limit (is_limited l) all ≡ stack → limit_on (is_limited l) all ≡ Ok limit → Follows t code (next limit c) (Here behind all c)) → (c : Counts) →
      Follows t code (limit_means l (site_of t code helpers) scope c next) (Here place stack c)

  change_by : (e o : Expr) → ExprFollows e → ExprFollows o → (i : Instr) (change : (new old : List (List ℕ × Value)) → List (List ℕ × Value)) →
      ((s : State) → step_by t code s i ≡ begins_change t code s t.origin s.frame.stack) → ((s : State) (ds : List Doc) → goes_on t s ds i ≡ changes t s change (first_of ds) s.frame.stack) →
      Means (expr_means e (site_of t code helpers) scope >>= (λ v. expr_means o (site_of t code helpers) scope >>= change_value (site_of t code helpers) change v)) (expr_code k e ++ (expr_code k o ++ i ∷ []))
  change_by e o means_e means_o i change begins ends place behind stack h next goes c =
      let first = stands_split code.instrs place (expr_code k e) (expr_code k o ++ i ∷ []) behind h in
      let second = stands_split code.instrs first.0 (expr_code k o) (i ∷ []) behind first.2 in
      means_e place first.0 stack first.1 _ (λ v d.
      means_o first.0 second.0 (v ∷ stack) second.1 _ (λ w f.
      change_follows t code helpers i change begins ends second.0 vars stack loops callers second.2.0 next
      (λ x g. subst (λ (p : ℕ). Follows t code (next x g) (Here p (x ∷ stack) g)) (sym second.2.1) (goes x g)) v w f) d) c

  mutual
    pub expr_follows : (e : Expr) → ExprFollows e
    expr_follows (expr at f) = form_follows f

    form_follows : (f : Form) → FormFollows f
    form_follows (integer z) place behind stack h next goes c = pushed_follows t code vars loops callers place behind stack (instr.Int z) h (int z) (λ s. refl) next goes c
    form_follows (text s) place behind stack h next goes c = pushed_follows t code vars loops callers place behind stack (instr.Str s) h (string s) (λ s. refl) next goes c
    form_follows (truth b) place behind stack h next goes c = pushed_follows t code vars loops callers place behind stack (instr.Truth b) h (boolean b) (λ s. refl) next goes c
    form_follows nothing place behind stack h next goes c = pushed_follows t code vars loops callers place behind stack instr.Null h null (λ s. refl) next goes c
    form_follows (variable x) place behind stack h next goes c = variable_follows x place behind stack h next goes c
    form_follows (call n es) place behind stack h next goes c =
        let first = stands_split code.instrs place (exprs_code k es) (call_code (at_name n callees) (count_of es)) behind h in
        exprs_follow es place first.0 stack first.1 _ (λ vs all d e.
        call_follows t code helpers callees helped first.0 behind vars all stack loops callers n (count_of es) first.2 vs e next goes d) c
    form_follows (builtin b es) place behind stack h next goes c =
        let first = stands_split code.instrs place (operands_code k es) (instr.Builtin b (sources_of k es) ∷ []) behind h in
        operands_follow es place first.0 stack first.1 _ (λ vs all d e.
        many_follow t code vars loops callers first.0 behind all stack (instr.Builtin b (sources_of k es)) first.2 (builtin_value b) (operands (sources_of k es) vars all) (λ c. refl) vs e next goes d) c
    form_follows (items es) place behind stack h next goes c =
        let first = stands_split code.instrs place (exprs_code k es) (instr.Array (count_of es) ∷ []) behind h in
        exprs_follow es place first.0 stack first.1 _ (λ vs all d e.
        many_follow t code vars loops callers first.0 behind all stack (instr.Array (count_of es)) first.2 ops.array_of (popped (count_of es) [] all) (λ c. refl) vs e next goes d) c
    form_follows (entries es) place behind stack h next goes c =
        let first = stands_split code.instrs place (entries_code k es) (instr.Object (names_of es) ∷ []) behind h in
        entries_follow es place first.0 stack first.1 _ (λ vs all d e.
        many_follow t code vars loops callers first.0 behind all stack (instr.Object (names_of es)) first.2 (λ ws. ops.object_of (with_members (zip (names_of es) ws) []))
        (popped (length (names_of es)) [] all) (λ c. refl) vs e next goes d) c
    form_follows (group e) place behind stack h next goes c = expr_follows e place behind stack h next goes c
    form_follows (scan n i bs desc l) place behind stack h next goes c =
        let code_of_scan = scan_code (index_for code.schema n.text i.text (ops_of bs)) (ops_of bs) desc (is_limited l) in
        let first = stands_split code.instrs place (bounds_code k bs) (limit_code k l ++ code_of_scan) behind h in
        let second = stands_split code.instrs first.0 (limit_code k l) code_of_scan behind first.2 in
        bounds_follow bs place first.0 stack first.1 _ (λ vs one d e.
        limit_follow l first.0 second.0 one second.1 _ (λ limit two f under most.
        scan_follows t code helpers second.0 behind vars two loops callers n.text i.text (ops_of bs) desc (is_limited l) second.2 vs stack
        (ap (λ (l : List Value). popped (length (ops_of bs)) [] l) under ∙ e) limit most next goes f) d) c
    form_follows (count n) place behind stack h next goes c = count_follows n place behind stack h next goes c
    form_follows (get e) place behind stack h next goes c =
        let first = stands_split code.instrs place (expr_code k e) (instr.Get ∷ []) behind h in
        expr_follows e place first.0 stack first.1 _ (λ v d. get_follows t code helpers first.0 vars stack loops callers first.2.0 next
        (λ w f. subst (λ (p : ℕ). Follows t code (next w f) (Here p (w ∷ stack) f)) (sym first.2.1) (goes w f)) v d) c
    form_follows now place behind stack h next goes c = now_follows place behind stack h next goes c
    form_follows (insert n e) place behind stack h next goes c =
        let first = stands_split code.instrs place (expr_code k e) (insert_code (table_number code.schema n.text)) behind h in
        expr_follows e place first.0 stack first.1 _ (λ v d. insert_follows t code helpers first.0 behind vars stack loops callers n.text first.2 next goes v d) c
    form_follows (delete e) place behind stack h next goes c =
        let first = stands_split code.instrs place (expr_code k e) (instr.Delete ∷ []) behind h in
        expr_follows e place first.0 stack first.1 _ (λ v d. delete_follows t code helpers first.0 vars stack loops callers first.2.0 next
        (λ w f. subst (λ (p : ℕ). Follows t code (next w f) (Here p (w ∷ stack) f)) (sym first.2.1) (goes w f)) v d) c
    form_follows (patch e o) place behind stack h next goes c =
        change_by e o (expr_follows e) (expr_follows o) instr.Patch with_members (λ s. refl) (λ s ds. refl) place behind stack h next goes c
    form_follows (replace e o) place behind stack h next goes c =
        change_by e o (expr_follows e) (expr_follows o) instr.Replace (λ new old. new) (λ s. refl) (λ s ds. refl) place behind stack h next goes c
    form_follows (field e n) place behind stack h next goes c =
        let first = stands_split code.instrs place (unless_slot (slot_at k e) (expr_code k e)) (instr.Field (source_of (slot_at k e)) n.text ∷ []) behind h in
        operand_follows e (expr_follows e) place first.0 stack first.1 _ (λ v all d f.
        one_follows t code vars loops callers first.0 behind all stack (instr.Field (source_of (slot_at k e)) n.text) first.2 (λ w. ops.field w n.text) (operand (source_of (slot_at k e)) vars all) (λ c. refl) v f next goes d) c
    form_follows (item a i) place behind stack h next goes c =
        pair_follows a i (expr_follows a) (expr_follows i) ops.item (instr.Item (source_of (slot_at k a)) (source_of (slot_at k i))) (λ s. refl) place behind stack h next goes c
    form_follows (unary op e) place behind stack h next goes c =
        let first = stands_split code.instrs place (unless_slot (slot_at k e) (expr_code k e)) (instr.Unary op (source_of (slot_at k e)) ∷ []) behind h in
        operand_follows e (expr_follows e) place first.0 stack first.1 _ (λ v all d f.
        one_follows t code vars loops callers first.0 behind all stack (instr.Unary op (source_of (slot_at k e))) first.2 (unary_value op) (operand (source_of (slot_at k e)) vars all) (λ c. refl) v f next goes d) c
    form_follows (binary op a b) place behind stack h next goes c = binary_follows op a b (expr_follows a) (expr_follows b) place behind stack h next goes c

    exprs_follow : (es : Exprs) → ExprsFollow es
    exprs_follow no_exprs place behind stack h next goes c = subst (λ (p : ℕ). Follows t code (next [] c) (Here p stack c)) (sym h) (goes [] stack c refl)
    exprs_follow (then_expr e es) place behind stack h next goes c =
        let first = stands_split code.instrs place (expr_code k e) (exprs_code k es) behind h in
        expr_follows e place first.0 stack first.1 _ (λ v d.
        exprs_follow es first.0 behind (v ∷ stack) first.2 _ (λ vs all f g. goes (v ∷ vs) all f (popped_next (count_of es) all vs v stack g)) d) c

    operands_follow : (es : Exprs) → OperandsFollow es
    operands_follow no_exprs place behind stack h next goes c = subst (λ (p : ℕ). Follows t code (next [] c) (Here p stack c)) (sym h) (goes [] stack c refl)
    operands_follow (then_expr e es) place behind stack h next goes c =
        let first = stands_split code.instrs place (unless_slot (slot_at k e) (expr_code k e)) (operands_code k es) behind h in
        operand_follows e (expr_follows e) place first.0 stack first.1 _ (λ v one d f.
        operands_follow es first.0 behind one first.2 _ (λ vs all m g. goes (v ∷ vs) all m (operands_more (source_of (slot_at k e)) (sources_of k es) vars all one stack v vs f g)) d) c

    entries_follow : (es : Entries) → EntriesFollow es
    entries_follow no_entries place behind stack h next goes c = subst (λ (p : ℕ). Follows t code (next [] c) (Here p stack c)) (sym h) (goes [] stack c refl)
    entries_follow (entry n e es) place behind stack h next goes c =
        let first = stands_split code.instrs place (expr_code k e) (entries_code k es) behind h in
        expr_follows e place first.0 stack first.1 _ (λ v d.
        entries_follow es first.0 behind (v ∷ stack) first.2 _ (λ vs all f g. goes (v ∷ vs) all f (popped_more (length (names_of es)) [] all vs v stack g)) d) c

    bounds_follow : (bs : Bounds) → BoundsFollow bs
    bounds_follow no_bounds place behind stack h next goes c = subst (λ (p : ℕ). Follows t code (next [] c) (Here p stack c)) (sym h) (goes [] stack c refl)
    bounds_follow (bound n op e bs) place behind stack h next goes c =
        let first = stands_split code.instrs place (expr_code k e) (bounds_code k bs) behind h in
        expr_follows e place first.0 stack first.1 _ (λ v d.
        bounds_follow bs first.0 behind (v ∷ stack) first.2 _ (λ vs all f g. goes (v ∷ vs) all f (popped_more (length (ops_of bs)) [] all vs v stack g)) d) c

    limit_follow : (l : Limit) → LimitFollows l
    limit_follow all_rows place behind stack h next goes c = subst (λ (p : ℕ). Follows t code (next None c) (Here p stack c)) (sym h) (goes None stack c refl refl)
    limit_follow (up_to e) place behind stack h next goes c =
        let first = stands_split code.instrs place (expr_code k e) (instr.AsLimit ∷ []) behind h in
        expr_follows e place first.0 stack first.1 _ (λ v d. limit_follows t code vars loops callers first.0 behind stack first.2 next goes v d) c
