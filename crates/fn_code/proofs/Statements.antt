-- Statements: the machine follows the course through assignments, choices, loops and returns.
use Rattle.std.proofs.Common.{◌≡◌, ℕ, ◌+◌, ◌-◌, Bool, true, false, List, [], ◌∷◌, ◌++◌, length, take, Option, Some, None, refl, sym, ap, ◌∙◌, subst, arith, append_assoc, append-nil}
use Rattle.std.specs.Prelude.{slice_get, codes, nat_le, if◌then◌else◌}
use Rattle.cv_values.specs.Value.{Value, boolean, string, array, list_of}
use Rattle.fn_tree.specs.Actions.{Counts, Action, Meaning, Scope, Site, ◌>>=◌, give, fail, spend, or_type_error, as_truth, as_items, as_text}
use Rattle.fn_tree.specs.Course.{Course}
use Rattle.fn_tree.specs.Meaning.{Return, turns, throw_text, act_means, stmts_mean, else_means}
use Rattle.fn_tree.specs.Names.{assigned, outside}
use Rattle.fn_tree.specs.SyntaxTree.{Expr, Stmt, stmt, Act, declare, assign, evaluate, choose, each, give_back, throw, Stmts, no_stmts, then_stmt, Else, no_else, or_else}
use Rattle.fn_tree.specs.declared.syntax.Named.{Named}
use Rattle.fn_code.specs.CodeMeans.{Follows}
use Rattle.fn_code.specs.Coding.{Known, store_code, known_after, expr_code, act_code, stmts_code, else_code}
use Rattle.fn_code.specs.Operands.{stored}
use Rattle.fn_code.specs.States.{Frame, Next, on, fails}
use Rattle.fn_code.specs.Steps.{Terms, branches, throws, begins_loop}
use Rattle.fn_code.specs.declared.code.Code.{Code}
use Rattle.fn_code.specs.declared.code.Instr.{Instr}
use Rattle.fn_code.specs.declared.code.Instr.TheVariants as instr
use Rattle.fn_code.specs.declared.known.Callee.{Callee}
use Rattle.fn_code.proofs.Calls.{AreCodes, Returns}
use Rattle.fn_code.proofs.Expressions.{knowing, expr_follows}
use Rattle.fn_code.proofs.Places.{Stands, stands_split, stands_length, names_in, values_in, site_of, state, follows_step, fail_follows}
use Rattle.fn_code.proofs.Slots.{SlotTakes, slot_in, slot_takes, map_append, map_take, length_map, take_front, take_whole}

-- the names behind a statement
abbrev pub names_behind : List (List ℕ) → Act → List (List ℕ)
names_behind names (declare x e) = names ++ x.text ∷ []
names_behind names a = names

known_behind : (code : Code) (callees : List (List ℕ × Callee)) (names : List (List ℕ)) (at : ℕ) (a : Act) →
    known_after (knowing code callees names) (stmt at a) ≡ knowing code callees (names_behind names a)
known_behind code callees names at (declare x e) = refl
known_behind code callees names at a = refl

-- what stands behind the names
more_behind : (names : List (List ℕ)) (a : Act) (more : List (List ℕ)) → (rest : List (List ℕ)) × (names_behind names a ++ more ≡ names ++ rest)
more_behind names (declare x e) more = (x.text ∷ more, append_assoc names (x.text ∷ []) more)
more_behind names a more = (more, refl)

module _ (t : Terms) (code : Code) (helpers : List (List ℕ × Meaning)) (callees : List (List ℕ × Callee)) (helped : AreCodes t code helpers callees)
    (callers : List Frame) (back : Return) (gives : Returns t code callers back) where
  abbrev site : Site
  site = site_of t code helpers

  -- a machine between statements
  abbrev Between : ℕ → List Value → List (List Value) → Counts → Next
  Between place vars loops c = on (state place vars [] loops callers c)

  abbrev Means : (Scope → Action Scope) → List (List ℕ) → List Instr → (Scope → Type 0) → Type 0
  Means act names is holds = (scope : Scope) → names_in scope ≡ names → (loops : List (List Value)) (place behind : ℕ) → Stands code.instrs place is behind →
      (next : Scope → Counts → Course) → ((after : Scope) (c : Counts) → holds after → Follows t code (next after c) (Between behind (values_in after) loops c)) → (c : Counts) →
      Follows t code (act scope c next) (Between place (values_in scope) loops c)

  abbrev ActFollows : Act → Type 0
  ActFollows a = (names : List (List ℕ)) → Means (act_means a site back) names (act_code (knowing code callees names) a) (λ after. names_in after ≡ names_behind names a)

  abbrev StmtsFollow : Stmts → Type 0
  StmtsFollow ss = (names : List (List ℕ)) → Means (stmts_mean ss site back) names (stmts_code (knowing code callees names) ss) (λ after. (more : List (List ℕ)) × (names_in after ≡ names ++ more))

  -- a block leaves the variables of its outside
  abbrev BlockFollows : (Return → Scope → Action Scope) → List (List ℕ) → List Instr → Type 0
  BlockFollows act names is = Means (λ scope. act back scope >>= (λ after. give (outside scope after))) names is (λ after. names_in after ≡ names)

  spend_follows : (place : ℕ) (vars : List Value) (loops : List (List Value)) → slice_get code.instrs place ≡ Some instr.Spend → (next : Counts → Course) →
      ((c : Counts) → Follows t code (next c) (Between (place + 1) vars loops c)) → (c : Counts) →
      Follows t code (spend site c (λ u d. next d)) (Between place vars loops c)
  spend_follows place vars loops here next goes c =
      follows_step t code (spend site c (λ u d. next d)) (state place vars [] loops callers c) instr.Spend here (go (nat_le d.cost t.limits.cost))
    where
      d : Counts
      d = record c { cost = c.cost + 1 }

      go : (b : Bool) → Follows t code (elim b [ true ↦ next d | false ↦ fail {A = Unit {0}} (codes "CostLimit") d (λ u e. next e) ])
          (elim b [ true ↦ Between (place + 1) vars loops d | false ↦ fails d (codes "CostLimit") ])
      go true = goes d
      go false = (0, refl)

  -- ---- single statements

  declare_follows : (x : Named) (e : Expr) → ActFollows (declare x e)
  declare_follows x e names scope same loops place behind h next goes c =
      let first = stands_split code.instrs place (expr_code (knowing code callees names) e) (instr.Declare ∷ []) behind h in
      expr_follows t code helpers callees helped names scope same loops callers e place first.0 [] first.1 _ (λ v d.
      let after : Scope = scope ++ (x.text, v) ∷ [] in
      follows_step t code (next after d) (state first.0 (values_in scope) (v ∷ []) loops callers d) instr.Declare first.2.0
      (subst (λ (p : ℕ). Follows t code (next after d) (Between p (values_in scope ++ v ∷ []) loops d)) (sym first.2.1)
      (subst (λ (vars : List Value). Follows t code (next after d) (Between behind vars loops d)) (map_append (λ (p : List ℕ × Value). p.1) scope ((x.text, v) ∷ []))
      (goes after d (map_append (λ (p : List ℕ × Value). p.0) scope ((x.text, v) ∷ []) ∙ ap (λ (ns : List (List ℕ)). ns ++ x.text ∷ []) same))))) c

  assign_follows : (x : Named) (e : Expr) → ActFollows (assign x e)
  assign_follows x e names scope same loops place behind h next goes c =
      let first = stands_split code.instrs place (expr_code (knowing code callees names) e) (store_code (slot_in names x.text)) behind h in
      expr_follows t code helpers callees helped names scope same loops callers e place first.0 [] first.1 _ (λ v d.
      go first.0 v d (slot_in names x.text) (assigned x.text v scope) (subst (λ (ns : List (List ℕ)). SlotTakes scope v (slot_in ns x.text) (assigned x.text v scope)) same (slot_takes scope x.text v)) first.2) c
    where
      go : (p : ℕ) (v : Value) (d : Counts) (a : Option ℕ) (b : Option Scope) → SlotTakes scope v a b → Stands code.instrs p (store_code a) behind →
          Follows t code (or_type_error b d next) (on (state p (values_in scope) (v ∷ []) loops callers d))
      go p v d None None k h = fail_follows t code (state p (values_in scope) (v ∷ []) loops callers d) h.0
      go p v d None (Some after) k h = absurd k
      go p v d (Some n) None k h = absurd k
      go p v d (Some n) (Some after) k h = follows_step t code (next after d) (state p (values_in scope) (v ∷ []) loops callers d) (instr.Store n) h.0
          (subst (λ (q : ℕ). Follows t code (next after d) (Between q (stored n v (values_in scope)) loops d)) (sym h.1)
          (subst (λ (vars : List Value). Follows t code (next after d) (Between behind vars loops d)) k.1 (goes after d (k.0 ∙ same))))

  evaluate_follows : (e : Expr) → ActFollows (evaluate e)
  evaluate_follows e names scope same loops place behind h next goes c =
      let first = stands_split code.instrs place (expr_code (knowing code callees names) e) (instr.Discard ∷ []) behind h in
      expr_follows t code helpers callees helped names scope same loops callers e place first.0 [] first.1 _ (λ v d.
      follows_step t code (next scope d) (state first.0 (values_in scope) (v ∷ []) loops callers d) instr.Discard first.2.0
      (subst (λ (p : ℕ). Follows t code (next scope d) (Between p (values_in scope) loops d)) (sym first.2.1) (goes scope d same))) c

  give_back_follows : (e : Expr) → ActFollows (give_back e)
  give_back_follows e names scope same loops place behind h next goes c =
      let first = stands_split code.instrs place (expr_code (knowing code callees names) e) (instr.Return ∷ []) behind h in
      expr_follows t code helpers callees helped names scope same loops callers e place first.0 [] first.1 back (λ v d.
      follows_step t code (back v d) (state first.0 (values_in scope) (v ∷ []) loops callers d) instr.Return first.2.0 (gives v d)) c

  throw_follows : (e : Expr) → ActFollows (throw e)
  throw_follows e names scope same loops place behind h next goes c =
      let first = stands_split code.instrs place (expr_code (knowing code callees names) e) (instr.Throw ∷ []) behind h in
      expr_follows t code helpers callees helped names scope same loops callers e place first.0 [] first.1 _ (λ v d.
      follows_step t code (as_text v d (λ s f. fail {A = Scope} (throw_text s) f next)) (state first.0 (values_in scope) (v ∷ []) loops callers d) instr.Throw first.2.0 (go first.0 d v)) c
    where
      go : (p : ℕ) (d : Counts) (v : Value) → Follows t code (as_text v d (λ s f. fail {A = Scope} (throw_text s) f next)) (throws (state p (values_in scope) (v ∷ []) loops callers d) (v ∷ []))
      go p d (string s) = (0, refl)
      go p d v = (0, refl)

  -- ---- blocks

  block_ends : (names : List (List ℕ)) (outer after : Scope) (more : List (List ℕ)) → names_in outer ≡ names → names_in after ≡ names ++ more →
      (loops : List (List Value)) (place behind : ℕ) → Stands code.instrs place (instr.Forget (length names) ∷ []) behind →
      (next : Scope → Counts → Course) → ((inner : Scope) (c : Counts) → names_in inner ≡ names → Follows t code (next inner c) (Between behind (values_in inner) loops c)) → (c : Counts) →
      Follows t code (next (outside outer after) c) (Between place (values_in after) loops c)
  block_ends names outer after more same longer loops place behind h next goes c =
      follows_step t code (next (outside outer after) c) (state place (values_in after) [] loops callers c) (instr.Forget (length names)) h.0
      (subst (λ (p : ℕ). Follows t code (next (outside outer after) c) (Between p (take (length names) (values_in after)) loops c)) (sym h.1)
      (subst (λ (vars : List Value). Follows t code (next (outside outer after) c) (Between behind vars loops c))
      (map_take (λ (p : List ℕ × Value). p.1) (length outer) after ∙ ap (λ n. take n (values_in after)) many)
      (goes (outside outer after) c
      (map_take (λ (p : List ℕ × Value). p.0) (length outer) after ∙ (ap (λ n. take n (names_in after)) many ∙ (ap (λ (ns : List (List ℕ)). take (length names) ns) longer ∙ take_front names more))))))
    where
      many : length outer ≡ length names
      many = sym (length_map (λ (p : List ℕ × Value). p.0) outer) ∙ ap (λ (ns : List (List ℕ)). length ns) same

  block_follows : (ss : Stmts) → StmtsFollow ss → (names : List (List ℕ)) →
      BlockFollows (λ back scope. stmts_mean ss site back scope) names (stmts_code (knowing code callees names) ss ++ instr.Forget (length names) ∷ [])
  block_follows ss means names scope same loops place behind h next goes c =
      let first = stands_split code.instrs place (stmts_code (knowing code callees names) ss) (instr.Forget (length names) ∷ []) behind h in
      means names scope same loops place first.0 first.1 _ (λ after d longer. block_ends names scope after longer.0 same longer.1 loops first.0 behind first.2 next goes d) c

  -- ---- choices

  choice_follows : (e : Expr) (ss : Stmts) (o : Else) → StmtsFollow ss →
      ((names : List (List ℕ)) → BlockFollows (λ back scope. else_means o site back scope) names (else_code (knowing code callees names) o)) → ActFollows (choose e ss o)
  choice_follows e ss o means_ss means_o names scope same loops place behind h next goes c =
      expr_follows t code helpers callees helped names scope same loops callers e place first.0 [] first.1 _ (λ v d.
      follows_step t code (as_truth v d chosen) (state first.0 (values_in scope) (v ∷ []) loops callers d) (instr.Branch (length a + 1)) first.2.0 (by v d)) c
    where
      chosen : Bool → Counts → Course
      chosen x f = (if x then stmts_mean ss site back scope else else_means o site back scope) f (λ after g. next (outside scope after) g)

      a : List Instr
      a = stmts_code (knowing code callees names) ss ++ instr.Forget (length names) ∷ []

      b : List Instr
      b = else_code (knowing code callees names) o

      first : (between : ℕ) × Stands code.instrs place (expr_code (knowing code callees names) e) between × Stands code.instrs between (instr.Branch (length a + 1) ∷ (a ++ instr.Jump (length b) ∷ b)) behind
      first = stands_split code.instrs place (expr_code (knowing code callees names) e) (instr.Branch (length a + 1) ∷ (a ++ instr.Jump (length b) ∷ b)) behind h

      second : (between : ℕ) × Stands code.instrs (first.0 + 1) a between × Stands code.instrs between (instr.Jump (length b) ∷ b) behind
      second = stands_split code.instrs (first.0 + 1) a (instr.Jump (length b) ∷ b) behind first.2.1

      other : second.0 + 1 ≡ first.0 + 1 + (length a + 1)
      other = let e = stands_length code.instrs (first.0 + 1) a second.0 second.1 in omega arith

      last : second.0 + 1 + length b ≡ behind
      last = sym (stands_length code.instrs (second.0 + 1) b behind second.2.1)

      jumps : (inner : Scope) (d : Counts) → names_in inner ≡ names → Follows t code (next inner d) (Between second.0 (values_in inner) loops d)
      jumps inner d kept = follows_step t code (next inner d) (state second.0 (values_in inner) [] loops callers d) (instr.Jump (length b)) second.2.0
          (subst (λ (p : ℕ). Follows t code (next inner d) (Between p (values_in inner) loops d)) (sym last) (goes inner d kept))

      by : (v : Value) (d : Counts) → Follows t code (as_truth v d chosen) (branches (state first.0 (values_in scope) (v ∷ []) loops callers d) (length a + 1) (v ∷ []))
      by (boolean true) d = block_follows ss means_ss names scope same loops (first.0 + 1) second.0 second.1 next jumps d
      by (boolean false) d = subst (λ (p : ℕ). Follows t code (chosen false d) (Between p (values_in scope) loops d)) other
          (means_o names scope same loops (second.0 + 1) behind second.2.1 next goes d)
      by v d = (0, refl)

  -- ---- loops

  -- the course of one turn
  abbrev turn : Named → Stmts → Value → Scope → Action Scope
  turn x ss w before = stmts_mean ss site back (before ++ (x.text, w) ∷ []) >>= (λ after. give (outside before after))

  turns_follow : (x : Named) (ss : Stmts) → StmtsFollow ss → (names : List (List ℕ)) (is : List Instr) →
      is ≡ stmts_code (knowing code callees (names ++ x.text ∷ [])) ss ++ instr.Forget (length names) ∷ [] → (front place behind : ℕ) →
      Stands code.instrs front is place → Stands code.instrs place (instr.Turn (length is) ∷ []) behind → (loops : List (List Value)) →
      (next : Scope → Counts → Course) → ((after : Scope) (c : Counts) → names_in after ≡ names → Follows t code (next after c) (Between behind (values_in after) loops c)) →
      (vs : List Value) (scope : Scope) → names_in scope ≡ names → (c : Counts) →
      Follows t code (turns site (turn x ss) vs scope c next) (Between place (values_in scope) (vs ∷ loops) c)
  turns_follow x ss means names is body front place behind stands h loops next goes [] scope same c =
      follows_step t code (next scope c) (state place (values_in scope) [] ([] ∷ loops) callers c) (instr.Turn (length is)) h.0
      (subst (λ (p : ℕ). Follows t code (next scope c) (Between p (values_in scope) loops c)) (sym h.1) (goes scope c same))
  turns_follow x ss means names is body front place behind stands h loops next goes (v ∷ vs) scope same c =
      follows_step t code (turns site (turn x ss) (v ∷ vs) scope c next) (state place (values_in scope) [] ((v ∷ vs) ∷ loops) callers c) (instr.Turn (length is)) h.0
      (spent (turns_follow x ss means names is body front place behind stands h loops next goes vs) (nat_le d.cost t.limits.cost))
    where
      d : Counts
      d = record c { cost = c.cost + 1 }

      rest : Scope → Counts → Course
      rest after e = turns site (turn x ss) vs after e next

      inner : Scope
      inner = scope ++ (x.text, v) ∷ []

      parts : (between : ℕ) × Stands code.instrs front (stmts_code (knowing code callees (names ++ x.text ∷ [])) ss) between × Stands code.instrs between (instr.Forget (length names) ∷ []) place
      parts = stands_split code.instrs front (stmts_code (knowing code callees (names ++ x.text ∷ [])) ss) (instr.Forget (length names) ∷ []) place
          (subst (λ (is : List Instr). Stands code.instrs front is place) body stands)

      begins : front ≡ place - length is
      begins = let e = stands_length code.instrs front is place stands in omega arith

      inner_names : names_in inner ≡ names ++ x.text ∷ []
      inner_names = map_append (λ (p : List ℕ × Value). p.0) scope ((x.text, v) ∷ []) ∙ ap (λ (ns : List (List ℕ)). ns ++ x.text ∷ []) same

      spent : ((scope : Scope) → names_in scope ≡ names → (c : Counts) → Follows t code (turns site (turn x ss) vs scope c next) (Between place (values_in scope) (vs ∷ loops) c)) →
          (b : Bool) → Follows t code (elim b [ true ↦ turn x ss v scope d rest | false ↦ fail {A = Unit {0}} (codes "CostLimit") d (λ u e. turn x ss v scope e rest) ])
          (elim b [ true ↦ Between (place - length is) (values_in scope ++ v ∷ []) (vs ∷ loops) d | false ↦ fails d (codes "CostLimit") ])
      spent later true =
          subst (λ (p : ℕ). Follows t code (turn x ss v scope d rest) (Between p (values_in scope ++ v ∷ []) (vs ∷ loops) d)) begins
          (subst (λ (vars : List Value). Follows t code (turn x ss v scope d rest) (Between front vars (vs ∷ loops) d)) (map_append (λ (p : List ℕ × Value). p.1) scope ((x.text, v) ∷ []))
          (means (names ++ x.text ∷ []) inner inner_names (vs ∷ loops) front parts.0 parts.1 _ (λ after e longer.
          block_ends names scope after (x.text ∷ longer.0) same (longer.1 ∙ append_assoc names (x.text ∷ []) longer.0) (vs ∷ loops) parts.0 place parts.2 rest (λ kept f same. later kept same f) e) d))
      spent later false = (0, refl)

  each_follows : (x : Named) (e : Expr) (ss : Stmts) → StmtsFollow ss → ActFollows (each x e ss)
  each_follows x e ss means names scope same loops place behind h next goes c =
      expr_follows t code helpers callees helped names scope same loops callers e place first.0 [] first.1 _ (λ v d.
      follows_step t code (as_items v d (λ vs f. turns site (turn x ss) vs scope f next)) (state first.0 (values_in scope) (v ∷ []) loops callers d) instr.Items first.2.0 (by v d)) c
    where
      is : List Instr
      is = stmts_code (knowing code callees (names ++ x.text ∷ [])) ss ++ instr.Forget (length names) ∷ []

      first : (between : ℕ) × Stands code.instrs place (expr_code (knowing code callees names) e) between
          × Stands code.instrs between (instr.Items ∷ instr.Jump (length is) ∷ (is ++ instr.Turn (length is) ∷ [])) behind
      first = stands_split code.instrs place (expr_code (knowing code callees names) e) (instr.Items ∷ instr.Jump (length is) ∷ (is ++ instr.Turn (length is) ∷ [])) behind h

      second : (between : ℕ) × Stands code.instrs (first.0 + 1 + 1) is between × Stands code.instrs between (instr.Turn (length is) ∷ []) behind
      second = stands_split code.instrs (first.0 + 1 + 1) is (instr.Turn (length is) ∷ []) behind first.2.1.1

      last : second.0 ≡ first.0 + 1 + 1 + length is
      last = stands_length code.instrs (first.0 + 1 + 1) is second.0 second.1

      jumps : (vs : List Value) (d : Counts) → Follows t code (turns site (turn x ss) vs scope d next) (Between (first.0 + 1) (values_in scope) (vs ∷ loops) d)
      jumps vs d = follows_step t code (turns site (turn x ss) vs scope d next) (state (first.0 + 1) (values_in scope) [] (vs ∷ loops) callers d) (instr.Jump (length is)) first.2.1.0
          (subst (λ (p : ℕ). Follows t code (turns site (turn x ss) vs scope d next) (Between p (values_in scope) (vs ∷ loops) d)) last
          (turns_follow x ss means names is refl (first.0 + 1 + 1) second.0 behind second.1 second.2 loops next goes vs scope same d))

      by : (v : Value) (d : Counts) → Follows t code (as_items v d (λ vs f. turns site (turn x ss) vs scope f next)) (begins_loop (state first.0 (values_in scope) (v ∷ []) loops callers d) (v ∷ []))
      by (array vs) d = jumps (list_of vs) d
      by v d = (0, refl)

  -- ---- all statements

  mutual
    act_follows : (a : Act) → ActFollows a
    act_follows (declare x e) = declare_follows x e
    act_follows (assign x e) = assign_follows x e
    act_follows (evaluate e) = evaluate_follows e
    act_follows (choose e ss o) = choice_follows e ss o (stmts_follow ss) (else_follows o)
    act_follows (each x e ss) = each_follows x e ss (stmts_follow ss)
    act_follows (give_back e) = give_back_follows e
    act_follows (throw e) = throw_follows e

    pub stmts_follow : (ss : Stmts) → StmtsFollow ss
    stmts_follow no_stmts names scope same loops place behind h next goes c =
        subst (λ (p : ℕ). Follows t code (next scope c) (Between p (values_in scope) loops c)) (sym h) (goes scope c ([], same ∙ sym (append-nil names)))
    stmts_follow (then_stmt s ss) names scope same loops place behind h next goes c = stmt_follows s ss (stmts_follow ss) names scope same loops place behind h next goes c

    stmt_follows : (s : Stmt) (ss : Stmts) → StmtsFollow ss → StmtsFollow (then_stmt s ss)
    stmt_follows (stmt at a) ss means names scope same loops place behind h next goes c =
        let first = stands_split code.instrs (place + 1) (act_code (knowing code callees names) a) (stmts_code (known_after (knowing code callees names) (stmt at a)) ss) behind h.1 in
        let later = subst (λ (known : Known). Stands code.instrs first.0 (stmts_code known ss) behind) (known_behind code callees names at a) first.2 in
        spend_follows place (values_in scope) loops h.0 _ (λ d.
        act_follows a names scope same loops (place + 1) first.0 first.1 _ (λ between e kept.
        means (names_behind names a) between kept loops first.0 behind later next (λ after f longer.
        let m = more_behind names a longer.0 in goes after f (m.0, longer.1 ∙ m.1)) e) d) c

    else_follows : (o : Else) (names : List (List ℕ)) → BlockFollows (λ back scope. else_means o site back scope) names (else_code (knowing code callees names) o)
    else_follows no_else names scope same loops place behind h next goes c =
        subst (λ (p : ℕ). Follows t code (next (outside scope scope) c) (Between p (values_in scope) loops c)) (sym h)
        (subst (λ (after : Scope). Follows t code (next after c) (Between behind (values_in scope) loops c)) (sym (take_whole scope)) (goes scope c same))
    else_follows (or_else ss) names scope same loops place behind h next goes c = block_follows ss (stmts_follow ss) names scope same loops place behind h next goes c
