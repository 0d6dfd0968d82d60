-- A try is sent back exactly where a later entry touches what it read.
use Rattle.std.proofs.Common.{◌≡◌, ℕ, ℤ, ◌+◌, Bool, true, false, ◌||◌, List, length, Option, Some, None, Result, Ok, Err, refl, sym, ap, ◌∙◌}
use Rattle.std.specs.Prelude.{nat_lt}
use Rattle.cv_store.specs.FirstTouch.{first_touch_places}
use Rattle.cv_store.specs.Kept.{kept}
use Rattle.cv_store.specs.declared.conflict.Conflict.{Conflict}
use Rattle.fn_tree.specs.Course.{Reply}
use Rattle.fn_tree.specs.History.{Entry, History}
use Rattle.fn_tree.specs.Schemas.{schema_of}
use Rattle.fn_tree.specs.SyntaxTree.{ModuleTree}
use Rattle.sync_msgs.specs.Clients.{fold_message}
use Rattle.sync_msgs.specs.Messages.{Shown, ServerMessage, transition}
use Rattle.sync_msgs.specs.Numbered.{each_number}
use Rattle.sync_msgs.specs.declared.cause.Cause.{Cause}
use Rattle.sync_session.specs.Applying.{after_message}
use Rattle.sync_session.specs.Conns.{Conn, Request, call_at, Try, Work, rests, mutates, answers, goes_to, Heard, is_due}
use Rattle.sync_session.specs.SentBack.{IsTouched, SentBackExactly}
use Rattle.sync_session.specs.Showing.{shown_of}
use Rattle.sync_session.specs.Stepping.{Input, got, quiet, closed, Stepped, goes, sends, settled, response, run_of, entry_of, begin_step, try_step, with_answer, any_stale, ends_at, answer_step, tail_step, applies, text_step, input_step, rest_step, work_step}
use Rattle.sync_session.specs.declared.went.Went.{Went}
use Rattle.sync_session.specs.declared.went.Went.TheVariants.{Moved, Idle, SentBack}
use Rattle.cv_store.specs.Tails.{tail_from}

abbrev touch_of : Went → Option Conflict
touch_of (SentBack touch) = Some touch
touch_of went = None

-- the step isn't one that sends back
abbrev Stays : Stepped → Type 0
Stays r = touch_of r.went ≡ None

never : (m : ModuleTree) (h : History) (c : Conn) (r : Stepped) (touch : Conflict) → Stays r → r.went ≡ SentBack touch → IsTouched m h c touch
never m h c r touch e f = let no : ◌≡◌ {A = Option Conflict} None (Some touch) = sym e ∙ ap touch_of f in absurd (cc)

module _ (m : ModuleTree) (h : History) where
  end_stays : (ts : ℕ) (c : Conn) → Stays (ends_at m h ts c)
  end_stays ts c = go (is_due c || nat_lt 0 (length what))
    where
      what : List Shown
      what = shown_of m h c.queries c.client.results

      d : Conn
      d = record c { queries = each_number settled c.queries; changed = false; work = rests }

      message : ServerMessage
      message = transition c.client.version (record { query_set = c.query_set; identity = 0; ts = ts }) what

      go : (x : Bool) → Stays (elim x [ true ↦ sends message Moved (record d { client = fold_message c.client message }) | false ↦ goes Moved d ])
      go true = refl
      go false = refl

  answer_stays : (ts : ℕ) (c : Conn) → Stays (answer_step m h ts c)
  answer_stays ts c = go (any_stale m h d)
    where
      d : Conn
      d = record c { queries = with_answer m h c.position ts c.queries }

      go : (x : Bool) → Stays (elim x [ true ↦ goes Moved d | false ↦ ends_at m h ts d ])
      go true = refl
      go false = end_stays ts d

  tail_stays : (c : Conn) → Stays (tail_step m h c)
  tail_stays c = go (nat_lt t t_end) (any_stale m h d) (is_due d)
    where
      t : ℕ
      t = (tail_from (schema_of m.tables) h c.position).to

      t_end : ℕ
      t_end = (tail_from (schema_of m.tables) h c.position).end

      d : Conn
      d = record c { position = t }

      go : (x y z : Bool) → Stays (elim x [
        | true ↦ goes Moved d
        | false ↦ elim y [ true ↦ goes Moved (record d { work = goes_to t_end }) | false ↦ elim z [ true ↦ ends_at m h t_end d | false ↦ goes Idle d ] ]
      ])
      go true y z = refl
      go false true z = refl
      go false false true = end_stays t_end d
      go false false false = refl

  applies_stays : (r : Result Conn Cause) (c : Conn) → Stays (applies r c)
  applies_stays (Ok d) c = refl
  applies_stays (Err why) c = refl

  text_stays : (text : Heard) (c : Conn) → Stays (text_step h text c)
  text_stays (Err why) c = refl
  text_stays (Ok message) c = applies_stays (after_message (length h) message c) c

  input_stays : (input : Input) (c : Conn) → Stays (input_step m h input c)
  input_stays (got text) c = text_stays text c
  input_stays quiet c = tail_stays c
  input_stays closed c = refl

  rest_stays : (c : Conn) (input : Input) → Stays (rest_step m h c input)
  rest_stays c input = go (is_due c) c.kept
    where
      go : (x : Bool) (k : Option Heard) → Stays (elim x [
        | true ↦ tail_step m h c
        | false ↦ elim k [ Some text ↦ text_step h text (record c { kept = None }) | None ↦ input_step m h input c ]
      ])
      go true k = tail_stays c
      go false (Some text) = text_stays text (record c { kept = None })
      go false None = input_stays input c

  begin_stays : (now : ℤ) (r : Request) (c : Conn) → Stays (begin_step h now r c)
  begin_stays now r c = go (kept r.session r.request h)
    where
      go : (k : Option (ℕ × Reply)) → Stays (elim k [
        | Some k ↦ response r.request k.0 k.1 c
        | None ↦ goes Moved (record c { work = mutates r (Some (record { call = call_at now r; snapshot = length h; reads = 0 })) })
      ])
      go (Some k) = refl
      go None = refl

  try_touched : (r : Request) (t : Try) (c : Conn) (touch : Conflict) → c.work ≡ mutates r (Some t) → (try_step m h r t c).went ≡ SentBack touch → IsTouched m h c touch
  try_touched r t c touch work = go (nat_lt t.reads (length (run_of m h t).reads)) (kept t.call.session t.call.request h) (first_touch_places (schema_of m.tables) (run_of m h t).reads h t.snapshot) refl refl refl
    where
      e : Entry
      e = entry_of t.call (run_of m h t)

      same : (a b : Conflict) → SentBack a ≡ SentBack b → a ≡ b
      same a b e = cc

      go : (x : Bool) (k : Option (ℕ × Reply)) (o : Option Conflict) → nat_lt t.reads (length (run_of m h t).reads) ≡ x → kept t.call.session t.call.request h ≡ k
          → first_touch_places (schema_of m.tables) (run_of m h t).reads h t.snapshot ≡ o
          → (let r' : Stepped = elim x [
            | true ↦ goes Moved (record c { work = mutates r (Some (record t { reads = t.reads + 1 })) })
            | false ↦ elim k [
              | Some k ↦ response r.request k.0 k.1 c
              | None ↦ elim o [ Some touch ↦ goes (SentBack touch) (record c { work = mutates r None }) | None ↦ record (response r.request (length h + 1) e.reply c) { entry = Some e } ]
            ]
          ] in
          r'.went ≡ SentBack touch) → IsTouched m h c touch
      go true k o p q s f = never m h c (goes Moved c) touch refl f
      go false (Some k) o p q s f = never m h c (goes Moved c) touch refl f
      go false None None p q s f = never m h c (goes Moved c) touch refl f
      go false None (Some found) p q s f = record { request = r; try = t; work = work; all = p; new = q; touched = s ∙ ap Some (same found touch f) }

  work_touched : (now : ℤ) (c : Conn) (input : Input) (touch : Conflict) (w : Work) → c.work ≡ w → (work_step m h now c input w).went ≡ SentBack touch → IsTouched m h c touch
  work_touched now c input touch rests e f = never m h c (rest_step m h c input) touch (rest_stays c input) f
  work_touched now c input touch (mutates r None) e f = never m h c (begin_step h now r c) touch (begin_stays now r c) f
  work_touched now c input touch (mutates r (Some t)) e f = try_touched r t c touch e f
  work_touched now c input touch (answers r ts reply) e f = never m h c (response r.request ts reply c) touch refl f
  work_touched now c input touch (goes_to ts) e f = never m h c (answer_step m h ts c) touch (answer_stays ts c) f

  try_sent : (r : Request) (t : Try) (c : Conn) (touch : Conflict) → nat_lt t.reads (length (run_of m h t).reads) ≡ false → kept t.call.session t.call.request h ≡ None
      → first_touch_places (schema_of m.tables) (run_of m h t).reads h t.snapshot ≡ Some touch → (try_step m h r t c).went ≡ SentBack touch
  try_sent r t c touch = go (nat_lt t.reads (length (run_of m h t).reads)) (kept t.call.session t.call.request h) (first_touch_places (schema_of m.tables) (run_of m h t).reads h t.snapshot)
    where
      e : Entry
      e = entry_of t.call (run_of m h t)

      some_same : (a b : Conflict) → ◌≡◌ {A = Option Conflict} (Some a) (Some b) → a ≡ b
      some_same a b e = cc

      go : (x : Bool) (k : Option (ℕ × Reply)) (o : Option Conflict) → x ≡ false → k ≡ None → o ≡ Some touch
          → (let r' : Stepped = elim x [
            | true ↦ goes Moved (record c { work = mutates r (Some (record t { reads = t.reads + 1 })) })
            | false ↦ elim k [
              | Some k ↦ response r.request k.0 k.1 c
              | None ↦ elim o [ Some touch ↦ goes (SentBack touch) (record c { work = mutates r None }) | None ↦ record (response r.request (length h + 1) e.reply c) { entry = Some e } ]
            ]
          ] in
          r'.went) ≡ SentBack touch
      go true k o p q s = absurd (cc)
      go false (Some k) o p q s = absurd (cc)
      go false None None p q s = absurd (cc)
      go false None (Some found) p q s = ap SentBack (some_same found touch s)

  sent_back : (now : ℤ) (c : Conn) (input : Input) (touch : Conflict) → IsTouched m h c touch → (work_step m h now c input c.work).went ≡ SentBack touch
  sent_back now c input touch x = ap (λ (w : Work). (work_step m h now c input w).went) x.work ∙ try_sent x.request x.try c touch x.all x.new x.touched

pub sent_back_exactly : SentBackExactly
sent_back_exactly m h now c input touch = (λ f. work_touched m h now c input touch c.work refl f, λ x. sent_back m h now c input touch x)
