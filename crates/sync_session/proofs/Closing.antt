-- A session ends by a close only where nothing is under way and nothing is due.
use Rattle.std.proofs.Common.{◌≡◌, arith, ℕ, ℤ, ◌+◌, Bool, true, false, ◌||◌, List, length, Option, Some, None, Result, Ok, Err, refl, sym, ap, ◌∙◌}
use Rattle.std.specs.Prelude.{nat_lt}
use Rattle.cv_store.specs.FirstTouch.{first_touch_places}
use Rattle.cv_store.specs.Kept.{kept}
use Rattle.cv_store.specs.declared.conflict.Conflict.{Conflict}
use Rattle.fn_tree.specs.Course.{Reply}
use Rattle.fn_tree.specs.History.{Entry, History}
use Rattle.fn_tree.specs.Schemas.{schema_of}
use Rattle.fn_tree.specs.SyntaxTree.{ModuleTree}
use Rattle.sync_msgs.specs.Clients.{fold_message}
use Rattle.sync_msgs.specs.Messages.{Shown, ServerMessage, transition}
use Rattle.sync_msgs.specs.Numbered.{each_number}
use Rattle.sync_msgs.specs.declared.cause.Cause.{Cause}
use Rattle.sync_session.specs.Applying.{after_message}
use Rattle.sync_session.specs.Conns.{Conn, Request, call_at, Try, Work, rests, mutates, answers, goes_to, Heard, is_due}
use Rattle.sync_session.specs.Closing.{IsDone, ClosedIsDone}
use Rattle.sync_session.specs.Sound.{IsSound}
use Rattle.std.proofs.lemmas.Bool.{ltb-false}
use Rattle.sync_session.specs.declared.went.End.TheVariants.{Closed}
use Rattle.sync_session.specs.Showing.{shown_of}
use Rattle.sync_session.specs.Stepping.{Input, got, quiet, closed, Stepped, goes, sends, settled, response, run_of, entry_of, begin_step, try_step, with_answer, any_stale, ends_at, answer_step, tail_step, applies, text_step, input_step, rest_step, work_step}
use Rattle.sync_session.specs.declared.went.Went.{Went}
use Rattle.sync_session.specs.declared.went.Went.TheVariants.{Moved, Idle, SentBack, Ended}
use Rattle.cv_store.specs.Tails.{tail_from}

-- whether a step ended by a close
abbrev is_closed : Went → Bool
is_closed (Ended Closed) = true
is_closed went = false

abbrev Stays : Stepped → Type 0
Stays r = is_closed r.went ≡ false

never : {P : Type 0} (r : Stepped) → Stays r → r.went ≡ Ended Closed → P
never r e f = let no : ◌≡◌ {A = Bool} true false = sym (ap is_closed f) ∙ e in absurd (cc)

or_parts : (a b : Bool) → (a || b) ≡ false → (a ≡ false) × (b ≡ false)
or_parts true b e = absurd (cc)
or_parts false b e = (refl, e)

module _ (m : ModuleTree) (h : History) where
  end_stays : (ts : ℕ) (c : Conn) → Stays (ends_at m h ts c)
  end_stays ts c = go (is_due c || nat_lt 0 (length what))
    where
      what : List Shown
      what = shown_of m h c.queries c.client.results

      d : Conn
      d = record c { queries = each_number settled c.queries; changed = false; work = rests }

      message : ServerMessage
      message = transition c.client.version (record { query_set = c.query_set; identity = 0; ts = ts }) what

      go : (x : Bool) → Stays (elim x [ true ↦ sends message Moved (record d { client = fold_message c.client message }) | false ↦ goes Moved d ])
      go true = refl
      go false = refl

  answer_stays : (ts : ℕ) (c : Conn) → Stays (answer_step m h ts c)
  answer_stays ts c = go (any_stale m h d)
    where
      d : Conn
      d = record c { queries = with_answer m h c.position ts c.queries }

      go : (x : Bool) → Stays (elim x [ true ↦ goes Moved d | false ↦ ends_at m h ts d ])
      go true = refl
      go false = end_stays ts d

  tail_stays : (c : Conn) → Stays (tail_step m h c)
  tail_stays c = go (nat_lt t t_end) (any_stale m h d) (is_due d)
    where
      t : ℕ
      t = (tail_from (schema_of m.tables) h c.position).to

      t_end : ℕ
      t_end = (tail_from (schema_of m.tables) h c.position).end

      d : Conn
      d = record c { position = t }

      go : (x y z : Bool) → Stays (elim x [
        | true ↦ goes Moved d
        | false ↦ elim y [ true ↦ goes Moved (record d { work = goes_to t_end }) | false ↦ elim z [ true ↦ ends_at m h t_end d | false ↦ goes Idle d ] ]
      ])
      go true y z = refl
      go false true z = refl
      go false false true = end_stays t_end d
      go false false false = refl

  applies_stays : (r : Result Conn Cause) (c : Conn) → Stays (applies r c)
  applies_stays (Ok d) c = refl
  applies_stays (Err why) c = refl

  text_stays : (text : Heard) (c : Conn) → Stays (text_step h text c)
  text_stays (Err why) c = refl
  text_stays (Ok message) c = applies_stays (after_message (length h) message c) c

  begin_stays : (now : ℤ) (r : Request) (c : Conn) → Stays (begin_step h now r c)
  begin_stays now r c = go (kept r.session r.request h)
    where
      go : (k : Option (ℕ × Reply)) → Stays (elim k [
        | Some k ↦ response r.request k.0 k.1 c
        | None ↦ goes Moved (record c { work = mutates r (Some (record { call = call_at now r; snapshot = length h; reads = 0 })) })
      ])
      go (Some k) = refl
      go None = refl

  try_stays : (r : Request) (t : Try) (c : Conn) → Stays (try_step m h r t c)
  try_stays r t c = go (nat_lt t.reads (length (run_of m h t).reads)) (kept t.call.session t.call.request h) (first_touch_places (schema_of m.tables) (run_of m h t).reads h t.snapshot)
    where
      e : Entry
      e = entry_of t.call (run_of m h t)

      go : (x : Bool) (k : Option (ℕ × Reply)) (o : Option Conflict) → Stays (elim x [
        | true ↦ goes Moved (record c { work = mutates r (Some (record t { reads = t.reads + 1 })) })
        | false ↦ elim k [
          | Some k ↦ response r.request k.0 k.1 c
          | None ↦ elim o [ Some touch ↦ goes (SentBack touch) (record c { work = mutates r None }) | None ↦ record (response r.request (length h + 1) e.reply c) { entry = Some e } ]
        ]
      ])
      go true k o = refl
      go false (Some k) o = refl
      go false None (Some touch) = refl
      go false None None = refl

  done : (c : Conn) → IsSound h c → c.work ≡ rests → is_due c ≡ false → IsDone c
  done c is at_rest due =
      let parts = or_parts c.changed (nat_lt c.client.version.ts c.owed) due in
      (at_rest, is.settled parts.0, let l = ltb-false c.client.version.ts c.owed parts.1 in omega (arith, l))

  input_done : (c : Conn) (input : Input) → (is_due c ≡ false → IsDone c) → is_due c ≡ false → (input_step m h input c).went ≡ Ended Closed → IsDone c
  input_done c (got text) f due e = never (text_step h text c) (text_stays text c) e
  input_done c quiet f due e = never (tail_step m h c) (tail_stays c) e
  input_done c closed f due e = f due

  rest_done : (c : Conn) (input : Input) → IsSound h c → c.work ≡ rests → (rest_step m h c input).went ≡ Ended Closed → IsDone c
  rest_done c input is at_rest = go (is_due c) c.kept refl
    where
      pick : Bool → Option Heard → Stepped
      pick x k = elim x [ true ↦ tail_step m h c | false ↦ elim k [ Some text ↦ text_step h text (record c { kept = None }) | None ↦ input_step m h input c ] ]

      go : (x : Bool) (k : Option Heard) → is_due c ≡ x → (pick x k).went ≡ Ended Closed → IsDone c
      go true k due e = never (tail_step m h c) (tail_stays c) e
      go false (Some text) due e = never (text_step h text (record c { kept = None })) (text_stays text (record c { kept = None })) e
      go false None due e = input_done c input (λ d. done c is at_rest d) due e

  work_done : (now : ℤ) (c : Conn) (input : Input) (w : Work) → IsSound h c → c.work ≡ w → (work_step m h now c input w).went ≡ Ended Closed → IsDone c
  work_done now c input rests is e f = rest_done c input is e f
  work_done now c input (mutates r None) is e f = never (begin_step h now r c) (begin_stays now r c) f
  work_done now c input (mutates r (Some t)) is e f = never (try_step m h r t c) (try_stays r t c) f
  work_done now c input (answers r ts reply) is e f = never (response r.request ts reply c) refl f
  work_done now c input (goes_to ts) is e f = never (answer_step m h ts c) (answer_stays ts c) f

pub closed_is_done : ClosedIsDone
closed_is_done m h now c input is f = work_done m h now c input c.work is refl f
