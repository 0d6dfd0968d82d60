-- Writes: the machine reads, checks and puts as the course does.
use Rattle.std.proofs.Common.{◌≡◌, ℕ, ◌+◌, Bool, true, false, List, [], ◌∷◌, Option, Some, None, refl, sym, subst}
use Rattle.std.specs.Prelude.{slice_get, codes, Result, Ok, Err, nat_lt, nat_le}
use Rattle.cv_values.specs.Ids.{id_text, read_id}
use Rattle.cv_values.specs.Sizes.{checked}
use Rattle.cv_values.specs.Value.{Value, Members, null, string, object, members_of, pairs_of}
use Rattle.cv_values.specs.declared.check.ValueFault.{ValueFault}
use Rattle.cv_values.specs.declared.doc.Doc.{Doc}
use Rattle.cv_values.specs.declared.ids.DocId.{DocId}
use Rattle.fn_tree.specs.Actions.{Counts, Meaning, fail, type_error, or_fail, or_type_error, as_fields}
use Rattle.fn_tree.specs.Course.{Course, put}
use Rattle.fn_tree.specs.Names.{table_number}
use Rattle.fn_tree.specs.Reading.{as_id, first_of, id_in}
use Rattle.fn_tree.specs.Scan.{doc_size}
use Rattle.fn_tree.specs.Writing.{write, unless_faulty, store, next_ordinal, insert_value, doc_there, change_value, delete_value}
use Rattle.fn_tree.specs.declared.start.Origin.{Origin}
use Rattle.fn_tree.specs.declared.stop.Put.{Put}
use Rattle.fn_code.specs.CodeMeans.{Follows}
use Rattle.fn_code.specs.Coding.{insert_code}
use Rattle.fn_code.specs.States.{Frame, State, Next, on, puts, fails}
use Rattle.fn_code.specs.Steps.{Terms, step_by, writes, stores, stores_checked, inserts, begins_change, begins_delete, stuck, under_id, changes, deletes, goes_on, pushes, behind}
use Rattle.fn_code.specs.declared.code.Code.{Code}
use Rattle.fn_code.specs.declared.code.Instr.{Instr}
use Rattle.fn_code.specs.declared.code.Instr.TheVariants as instr
use Rattle.fn_code.proofs.Places.{Stands, site_of, state, Goes, follows_step, fail_follows}
use Rattle.fn_code.proofs.ReadSteps.{read_id_follows}

module _ (t : Terms) (code : Code) (helpers : List (List ℕ × Meaning)) where
  write_follows : (s after : State) (size : ℕ) (p : Put) (next : Unit {0} → Counts → Course) →
      ((c : Counts) → Follows t code (next tt c) (on (record after { counts = c }))) →
      Follows t code (write (site_of t code helpers) size p s.counts next) (writes t s size p after)
  write_follows s after size p next goes = counted (nat_lt s.counts.writes t.limits.writes)
    where
      c : Counts
      c = record s.counts { writes = s.counts.writes + 1; written = s.counts.written + size }

      sized : (b : Bool) → Follows t code (elim b [ false ↦ fail {A = Unit {0}} (codes "WriteSizeLimit") s.counts next | true ↦ put p (next tt c) ])
          (elim b [ false ↦ fails s.counts (codes "WriteSizeLimit") | true ↦ puts p (record after { counts = c }) ])
      sized true = (0, record after { counts = c }, refl, goes c)
      sized false = (0, refl)

      counted : (b : Bool) → Follows t code (elim b [
        | false ↦ fail {A = Unit {0}} (codes "WriteLimit") s.counts next
        | true ↦ elim (nat_le c.written t.limits.written) [ false ↦ fail {A = Unit {0}} (codes "WriteSizeLimit") s.counts next | true ↦ put p (next tt c) ]
      ])
          (elim b [
            | false ↦ fails s.counts (codes "WriteLimit")
            | true ↦ elim (nat_le c.written t.limits.written) [ false ↦ fails s.counts (codes "WriteSizeLimit") | true ↦ puts p (record after { counts = c }) ]
          ])
      counted true = sized (nat_le c.written t.limits.written)
      counted false = (0, refl)

  store_follows : (s : State) (old : Option Doc) (new : Doc) (value : Value) (stack : List Value) (next : Unit {0} → Counts → Course) →
      ((c : Counts) → Follows t code (next tt c) (pushes (record s { counts = c }) value stack)) →
      Follows t code (store (site_of t code helpers) old new s.counts next) (stores t s old new value stack)
  store_follows s old new value stack next goes = go (checked true (object (members_of new.fields)))
    where
      p : Put
      p = record { id = new.id; old = old; new = Some new }

      after : State
      after = record s { frame = behind s.frame (value ∷ stack) }

      go : (x : Result (Unit {0}) ValueFault) → Follows t code (unless_faulty x s.counts (λ u d. write (site_of t code helpers) (doc_size new) p d next)) (stores_checked t s old new after x)
      go (Ok u) = write_follows s after (doc_size new) p next goes
      go (Err e) = (0, refl)

  pub insert_follows : (place behind : ℕ) (vars stack : List Value) (loops : List (List Value)) (callers : List Frame) (table : List ℕ) →
      Stands code.instrs place (insert_code (table_number code.schema table)) behind →
      (next : Value → Counts → Course) → Goes t code behind vars stack loops callers next → (v : Value) (c : Counts) →
      Follows t code (insert_value (site_of t code helpers) table v c next) (on (state place vars (v ∷ stack) loops callers c))
  insert_follows place behind vars stack loops callers table h next goes v c = go (table_number code.schema table) h
    where
      s : State
      s = state place vars (v ∷ stack) loops callers c

      rest : Option ℕ → Origin → Counts → Course
      rest x o d = or_type_error x d (λ number e. as_fields v e (λ fields f. next_ordinal f (λ n g.
          let id : DocId = record { table = number; session = o.session; request = o.request; ordinal = n } in
          store (site_of t code helpers) None (record { id = id; creation = o.now; fields = fields }) g (λ u k. next (string (id_text id)) k))))

      unknown : (o : Option Origin) → slice_get code.instrs place ≡ Some instr.Fail → Follows t code (or_type_error o c (rest None)) (on s)
      unknown None here = fail_follows t code s here
      unknown (Some o) here = fail_follows t code s here

      stored : (number : ℕ) → place + 1 ≡ behind → (o : Origin) (w : Value) → Follows t code (as_fields w c (λ fields f. next_ordinal f (λ n g.
          let id : DocId = record { table = number; session = o.session; request = o.request; ordinal = n } in
          store (site_of t code helpers) None (record { id = id; creation = o.now; fields = fields }) g (λ u k. next (string (id_text id)) k))))
          (inserts t (state place vars (w ∷ stack) loops callers c) number (Some o) (w ∷ stack))
      stored number e o (object ms) =
          let begun : State = state place vars (object ms ∷ stack) loops callers (record c { inserts = c.inserts + 1 }) in
          let id : DocId = record { table = number; session = o.session; request = o.request; ordinal = c.inserts } in
          store_follows begun None (record { id = id; creation = o.now; fields = pairs_of ms }) (string (id_text id)) stack (λ u k. next (string (id_text id)) k)
          (λ d. subst (λ (k : ℕ). Follows t code (next (string (id_text id)) d) (on (state k vars (string (id_text id) ∷ stack) loops callers d))) (sym e) (goes (string (id_text id)) d))
      stored number e o w = (0, refl)

      known : (number : ℕ) → place + 1 ≡ behind → (o : Option Origin) → Follows t code (or_type_error o c (rest (Some number))) (inserts t s number o (v ∷ stack))
      known number e None = (0, refl)
      known number e (Some o) = stored number e o v

      go : (x : Option ℕ) → Stands code.instrs place (insert_code x) behind → Follows t code (or_type_error t.origin c (rest x)) (on s)
      go None h = unknown t.origin h.0
      go (Some number) h = follows_step t code (or_type_error t.origin c (rest (Some number))) s (instr.Insert number) h.0 (known number h.1 t.origin)

  abbrev Change : Type 0
  Change = (new old : List (List ℕ × Value)) → List (List ℕ × Value)

  -- a change with the document that was found
  changed_follows : (change : Change) (s : State) (text : List ℕ) (ms : Members) (stack : List Value) (id : DocId) → read_id text ≡ Some id →
      (next : Value → Counts → Course) → ((c : Counts) → Follows t code (next null c) (pushes (record s { counts = c }) null stack)) → (x : Option Doc) →
      Follows t code (or_fail (codes "NoDocument") x s.counts (λ old e.
      store (site_of t code helpers) (Some old) (record { id = id; creation = old.creation; fields = change (pairs_of ms) old.fields }) e (λ u k. next null k)))
      (changes t s change x (object ms ∷ string text ∷ stack))
  changed_follows change s text ms stack id e next goes None = (0, refl)
  changed_follows change s text ms stack id e next goes (Some old) =
      let course = store (site_of t code helpers) (Some old) (record { id = id; creation = old.creation; fields = change (pairs_of ms) old.fields }) s.counts (λ u k. next null k) in
      subst (λ (x : Option DocId). Follows t code course (under_id s x (λ id.
      stores t s (Some old) (record { id = id; creation = old.creation; fields = change (pairs_of ms) old.fields }) null stack))) (sym e)
      (store_follows s (Some old) (record { id = id; creation = old.creation; fields = change (pairs_of ms) old.fields }) null stack (λ u k. next null k) goes)

  -- a removal of the document that was found
  deleted_follows : (s : State) (text : List ℕ) (stack : List Value) (id : DocId) → read_id text ≡ Some id →
      (next : Value → Counts → Course) → ((c : Counts) → Follows t code (next null c) (pushes (record s { counts = c }) null stack)) → (x : Option Doc) →
      Follows t code (or_fail (codes "NoDocument") x s.counts (λ old e. write (site_of t code helpers) 0 (record { id = id; old = Some old; new = None }) e (λ u k. next null k)))
      (deletes t s x (string text ∷ stack))
  deleted_follows s text stack id e next goes None = (0, refl)
  deleted_follows s text stack id e next goes (Some old) =
      let course = write (site_of t code helpers) 0 (record { id = id; old = Some old; new = None }) s.counts (λ u k. next null k) in
      subst (λ (x : Option DocId). Follows t code course (under_id s x (λ id.
      writes t s 0 (record { id = id; old = Some old; new = None }) (record s { frame = behind s.frame (null ∷ stack) })))) (sym e)
      (write_follows s (record s { frame = behind s.frame (null ∷ stack) }) 0 (record { id = id; old = Some old; new = None }) (λ u k. next null k) goes)

  pub change_follows : (i : Instr) (change : Change) →
      ((s : State) → step_by t code s i ≡ begins_change t code s t.origin s.frame.stack) → ((s : State) (ds : List Doc) → goes_on t s ds i ≡ changes t s change (first_of ds) s.frame.stack) →
      (place : ℕ) (vars stack : List Value) (loops : List (List Value)) (callers : List Frame) → slice_get code.instrs place ≡ Some i →
      (next : Value → Counts → Course) → Goes t code (place + 1) vars stack loops callers next → (v w : Value) (c : Counts) →
      Follows t code (change_value (site_of t code helpers) change v w c next) (on (state place vars (w ∷ v ∷ stack) loops callers c))
  change_follows i change begins ends place vars stack loops callers here next goes v w c =
      follows_step t code (change_value (site_of t code helpers) change v w c next) s i here
      (subst (λ (x : Next). Follows t code (change_value (site_of t code helpers) change v w c next) x) (sym (begins s)) (by_origin t.origin))
    where
      s : State
      s = state place vars (w ∷ v ∷ stack) loops callers c

      stored : List (List ℕ × Value) → DocId → List Doc → Counts → Course
      stored fields id ds d = or_fail (codes "NoDocument") (first_of ds) d (λ old e.
          store (site_of t code helpers) (Some old) (record { id = id; creation = old.creation; fields = change fields old.fields }) e (λ u k. next null k))

      rest : Value → Value → Counts → Course
      rest a b d = as_id (site_of t code helpers) a d (λ id e. as_fields b e (λ fields f. doc_there (site_of t code helpers) id f (λ old g.
          store (site_of t code helpers) (Some old) (record { id = id; creation = old.creation; fields = change fields old.fields }) g (λ u k. next null k))))

      no_object : (x : Option DocId) (s : State) → Follows t code (or_fail (codes "BadId") x s.counts (λ id d. type_error {A = List (List ℕ × Value)} d (λ fields e. stored fields id [] e)))
          (elim x [ None ↦ fails s.counts (codes "BadId") | Some id ↦ stuck s ])
      no_object None s = (0, refl)
      no_object (Some id) s = (0, refl)

      by : (o : Origin) (a b : Value) → Follows t code (rest a b c) (begins_change t code (state place vars (b ∷ a ∷ stack) loops callers c) (Some o) (b ∷ a ∷ stack))
      by o (string text) (object ms) = read_id_follows t code helpers (state place vars (object ms ∷ string text ∷ stack) loops callers c) i here text (stored (pairs_of ms)) (λ id ds d e.
          let waiting : State = state place vars (object ms ∷ string text ∷ stack) loops callers d in
          subst (λ (x : Next). Follows t code (stored (pairs_of ms) id ds d) x) (sym (ends waiting ds)) (changed_follows change waiting text ms stack id e next (goes null) (first_of ds)))
      by o (string text) b = no_object (id_in code.schema (read_id text)) (state place vars (b ∷ string text ∷ stack) loops callers c)
      by o a (object ms) = (0, refl)
      by o a b = (0, refl)

      by_origin : (o : Option Origin) → Follows t code (or_type_error o c (λ x d. rest v w d)) (begins_change t code s o (w ∷ v ∷ stack))
      by_origin None = (0, refl)
      by_origin (Some o) = by o v w

  pub delete_follows : (place : ℕ) (vars stack : List Value) (loops : List (List Value)) (callers : List Frame) → slice_get code.instrs place ≡ Some instr.Delete →
      (next : Value → Counts → Course) → Goes t code (place + 1) vars stack loops callers next → (v : Value) (c : Counts) →
      Follows t code (delete_value (site_of t code helpers) v c next) (on (state place vars (v ∷ stack) loops callers c))
  delete_follows place vars stack loops callers here next goes v c =
      follows_step t code (delete_value (site_of t code helpers) v c next) (state place vars (v ∷ stack) loops callers c) instr.Delete here (by_origin t.origin)
    where
      gone : DocId → List Doc → Counts → Course
      gone id ds d = or_fail (codes "NoDocument") (first_of ds) d (λ old e. write (site_of t code helpers) 0 (record { id = id; old = Some old; new = None }) e (λ u k. next null k))

      rest : Value → Counts → Course
      rest a d = as_id (site_of t code helpers) a d (λ id e. doc_there (site_of t code helpers) id e (λ old f.
          write (site_of t code helpers) 0 (record { id = id; old = Some old; new = None }) f (λ u k. next null k)))

      by : (o : Origin) (a : Value) → Follows t code (rest a c) (begins_delete t code (state place vars (a ∷ stack) loops callers c) (Some o) (a ∷ stack))
      by o (string text) = read_id_follows t code helpers (state place vars (string text ∷ stack) loops callers c) instr.Delete here text gone (λ id ds d e.
          deleted_follows (state place vars (string text ∷ stack) loops callers d) text stack id e next (goes null) (first_of ds))
      by o a = (0, refl)

      by_origin : (o : Option Origin) → Follows t code (or_type_error o c (λ x d. rest v d)) (begins_delete t code (state place vars (v ∷ stack) loops callers c) o (v ∷ stack))
      by_origin None = (0, refl)
      by_origin (Some o) = by o v
