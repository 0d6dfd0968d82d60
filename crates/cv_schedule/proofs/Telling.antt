-- Each connection's client is the one that was told its lines.
use Rattle.std.proofs.Common.{◌≡◌, ℕ, zero, suc, ◌+◌, Bool, true, false, cond, List, [], ◌∷◌, ◌++◌, length, Option, Some, None, refl, sym, ap, ◌∙◌, subst}
use Rattle.std.specs.Prelude.{◌==◌}
use Rattle.std.proofs.lemmas.Bool.{eqb-true}
use Rattle.cv_keys.specs.declared.schema.Schema.{Schema}
use Rattle.cv_store.specs.Kept.{kept}
use Rattle.fn_tree.specs.Course.{Reply}
use Rattle.fn_tree.specs.History.{Entry, History}
use Rattle.fn_tree.specs.Schemas.{schema_of}
use Rattle.fn_tree.specs.SyntaxTree.{ModuleTree}
use Rattle.sync_msgs.specs.Clients.{Client, new_client, fold_message}
use Rattle.sync_msgs.specs.Messages.{ServerMessage}
use Rattle.sync_msgs.specs.Numbered.{Numbered, at_number, with_number, without_number}
use Rattle.sync_msgs.proofs.Numbers.{set_number, unset_number}
use Rattle.sync_session.specs.Conns.{Conn, Request}
use Rattle.sync_session.specs.Sound.{IsTold, StepIsSound}
use Rattle.sync_session.specs.Stepping.{Stepped, and_entry}
use Rattle.sync_session.specs.declared.went.Went.{Went}
use Rattle.sync_session.specs.declared.went.Went.TheVariants.{Moved, Idle, SentBack, Ended}
use Rattle.cv_schedule.specs.Schedules.{Attached, Stage, new_attached, Event, sets_clock, calls, opens, receives, steps, runs, closes, drops, tells_log, Line, replies, Turn, conns_after, texts_left, sent_lines, went_lines, turn_by, step_of, nothing, step_turn, run_turns, most_steps, call_turn, made_by, change_conn, entry_lines, after, opening}
use Rattle.cv_schedule.specs.Turns.{IsSoundStage, stage_after, told_line, told_lines, told_event, client_after, ClientsAreTold}
use Rattle.cv_schedule.proofs.Playing.{event_comes, opening_sound}
use Rattle.cv_schedule.proofs.Turning.{some_same, own_step, step_comes}

-- the client of a connection, if it is there
abbrev Shows : (c : ℕ) → Numbered Attached → Client → Type 0
Shows c conns k = (a : Attached) → at_number c conns ≡ Some a → a.conn.client ≡ k

none_there : {P : Type 0} (a : Attached) → ◌≡◌ {A = Option Attached} None (Some a) → P
none_there a e = absurd (cc)

lines_append : (c : ℕ) (k : Client) (a b : List Line) → told_lines c k (a ++ b) ≡ told_lines c (told_lines c k a) b
lines_append c k [] b = refl
lines_append c k (line ∷ a) b = lines_append c (told_line c k line) a b

went_tells_none : (schema : Schema) (c d : ℕ) (k : Client) (went : Went) → told_lines c k (went_lines schema d went) ≡ k
went_tells_none schema c d k Moved = refl
went_tells_none schema c d k Idle = refl
went_tells_none schema c d k (SentBack touch) = refl
went_tells_none schema c d k (Ended end) = refl

entries_tell_none : (c : ℕ) (k : Client) (ts : ℕ) (h : History) → told_lines c k (entry_lines ts h) ≡ k
entries_tell_none c k ts [] = refl
entries_tell_none c k ts (e ∷ h) = entries_tell_none c k (ts + 1) h

set_shows : (c d : ℕ) (x : Attached) (conns : Numbered Attached) (k : Client) → ((d == c) ≡ true → x.conn.client ≡ k) → ((d == c) ≡ false → Shows c conns k) → Shows c (with_number d x conns) k
set_shows c d x conns k own other a e = go (d == c) refl (sym (set_number d c x conns) ∙ e)
  where
    go : (b : Bool) → (d == c) ≡ b → cond b (Some x) (at_number c conns) ≡ Some a → a.conn.client ≡ k
    go true p f = ap (λ (y : Attached). y.conn.client) (sym (some_same x a f)) ∙ own p
    go false p f = other p a f

unset_shows : (c d : ℕ) (conns : Numbered Attached) (k : Client) → ((d == c) ≡ false → Shows c conns k) → Shows c (without_number d conns) k
unset_shows c d conns k other a e = go (d == c) refl (sym (unset_number d c conns) ∙ e)
  where
    go : (b : Bool) → (d == c) ≡ b → cond b None (at_number c conns) ≡ Some a → a.conn.client ≡ k
    go true p f = none_there a f
    go false p f = other p a f

after_shows : (went : Went) (c d : ℕ) (x : Attached) (conns : Numbered Attached) (k : Client) → ((d == c) ≡ true → x.conn.client ≡ k) → ((d == c) ≡ false → Shows c conns k) → Shows c (conns_after went d x conns) k
after_shows Moved c d x conns k own other = set_shows c d x conns k own other
after_shows Idle c d x conns k own other = set_shows c d x conns k own other
after_shows (SentBack touch) c d x conns k own other = set_shows c d x conns k own other
after_shows (Ended end) c d x conns k own other = unset_shows c d conns k other

-- ---- a turn

sent_shows : (m : ModuleTree) (h : History) (b c : Conn) (sent : Option ServerMessage) (n d : ℕ) (k : Client) → IsTold m h b c sent → b.client ≡ k → (d == n) ≡ true → c.client ≡ told_lines n k (sent_lines d sent)
sent_shows m h b c None n d k is same own = is ∙ same
sent_shows m h b c (Some message) n d k is same own =
    is.0 ∙ ap (λ (x : Client). fold_message x message) same ∙ ap (λ (x : Bool). cond x (fold_message k message) k) (sym own)

other_shows : (sent : Option ServerMessage) (n d : ℕ) (k : Client) → (d == n) ≡ false → k ≡ told_lines n k (sent_lines d sent)
other_shows None n d k other = refl
other_shows (Some message) n d k other = ap (λ (x : Bool). cond x (fold_message k message) k) (sym other)

module _ (m : ModuleTree) (c d : ℕ) where
  turn_shows : (s : Stage) (a : Attached) (r : Stepped) (k : Client) → StepIsSound m s.history a.conn r → at_number d s.conns ≡ Some a → Shows c s.conns k
      → Shows c (turn_by m d s a r).stage.conns (told_lines c k (turn_by m d s a r).lines)
  turn_shows s a r k step there shows =
      let said : told_lines c k (sent_lines d r.sent) ≡ told_lines c k (sent_lines d r.sent ++ went_lines (schema_of m.tables) d r.went) =
      sym (lines_append c k (sent_lines d r.sent) (went_lines (schema_of m.tables) d r.went) ∙ went_tells_none (schema_of m.tables) c d (told_lines c k (sent_lines d r.sent)) r.went) in
      after_shows r.went c d (record a { conn = r.conn; texts = texts_left a }) s.conns (told_lines c k (sent_lines d r.sent ++ went_lines (schema_of m.tables) d r.went))
      (λ own. sent_shows m (and_entry s.history r.entry) a.conn r.conn r.sent c d k step.told (shows a (ap (λ (n : ℕ). at_number n s.conns) (sym (eqb-true d c own)) ∙ there)) own ∙ said)
      (λ other b e. shows b e ∙ other_shows r.sent c d k other ∙ said)

  step_shows : (s : Stage) (k : Client) → IsSoundStage m s → Shows c s.conns k → Shows c (step_turn m d s).stage.conns (told_lines c k (step_turn m d s).lines)
  step_shows s k is shows = go (at_number d s.conns) refl
    where
      go : (o : Option Attached) → at_number d s.conns ≡ o
          → (let t : Turn = elim o [ None ↦ nothing s | Some a ↦ turn_by m d s a (step_of m s a) ] in Shows c t.stage.conns (told_lines c k t.lines))
      go None e = shows
      go (Some a) e = turn_shows s a (step_of m s a) k (own_step m d s a is e) e shows

  run_shows : (n : ℕ) (s : Stage) (k : Client) → IsSoundStage m s → Shows c s.conns k → Shows c (run_turns n m d s).stage.conns (told_lines c k (run_turns n m d s).lines)
  run_shows zero s k is shows = shows
  run_shows (suc n) s k is shows = go ((step_turn m d s).rests) (step_shows s k is shows) (λ now. run_shows n (step_turn m d s).stage (told_lines c k (step_turn m d s).lines) (step_comes m d s is).sound now)
    where
      t : Turn
      t = step_turn m d s

      go : (b : Bool) → Shows c t.stage.conns (told_lines c k t.lines)
          → (Shows c t.stage.conns (told_lines c k t.lines) → Shows c (run_turns n m d t.stage).stage.conns (told_lines c (told_lines c k t.lines) (run_turns n m d t.stage).lines))
          → (let u : Turn = elim b [ true ↦ t | false ↦ let v : Turn = run_turns n m d t.stage in record v { lines = t.lines ++ v.lines } ] in Shows c u.stage.conns (told_lines c k u.lines))
      go true one rest = one
      go false one rest =
          subst (Shows c (run_turns n m d t.stage).stage.conns) (sym (lines_append c k t.lines (run_turns n m d t.stage).lines)) (rest one)

-- ---- events

change_shows : (c d : ℕ) (f : Attached → Attached) (s : Stage) (k : Client) → ((a : Attached) → (f a).conn.client ≡ a.conn.client) → Shows c s.conns k → Shows c (change_conn d f s).conns k
change_shows c d f s k same shows = go (at_number d s.conns) refl
  where
    go : (o : Option Attached) → at_number d s.conns ≡ o → (let t : Stage = elim o [ None ↦ s | Some a ↦ record s { conns = with_number d (f a) s.conns } ] in Shows c t.conns k)
    go None e = shows
    go (Some a) e = set_shows c d (f a) s.conns k (λ own. same a ∙ shows a (ap (λ (n : ℕ). at_number n s.conns) (sym (eqb-true d c own)) ∙ e)) (λ other. shows)

call_shows : (m : ModuleTree) (c : ℕ) (s : Stage) (r : Request) (k : Client) → Shows c s.conns k → Shows c (call_turn m s r).stage.conns (told_lines c k (call_turn m s r).lines)
call_shows m c s r k shows = go (kept r.session r.request s.history)
  where
    made : Entry
    made = made_by m s r

    go : (o : Option (ℕ × Reply))
        → (let t : Turn = elim o [
          | Some f ↦ record { stage = s; lines = replies f.0 f.1 ∷ []; rests = true }
          | None ↦ record { stage = record s { history = s.history ++ made ∷ [] }; lines = replies (length s.history + 1) made.reply ∷ []; rests = true }
        ] in
        Shows c t.stage.conns (told_lines c k t.lines))
    go (Some f) = shows
    go None = shows

opened : (c d : ℕ) (s : Stage) (k : Client) → Shows c s.conns k → Shows c (with_number d new_attached s.conns) (cond (d == c) new_client k)
opened c d s k shows =
    set_shows c d new_attached s.conns (cond (d == c) new_client k)
    (λ own. ap (λ (b : Bool). cond b new_client k) (sym own))
    (λ other a e. shows a e ∙ ap (λ (b : Bool). cond b new_client k) (sym other))

event_shows : (m : ModuleTree) (c : ℕ) (s : Stage) (e : Event) (k : Client) → IsSoundStage m s → Shows c s.conns k → Shows c (after m s e).stage.conns (told_event c e k (after m s e).lines)
event_shows m c s (sets_clock now) k is shows = shows
event_shows m c s (calls r) k is shows = call_shows m c s r k shows
event_shows m c s (opens d) k is shows = opened c d s k shows
event_shows m c s (receives d text) k is shows = change_shows c d (λ a. record a { texts = a.texts ++ text ∷ [] }) s k (λ a. refl) shows
event_shows m c s (steps d) k is shows = step_shows m c d s k is shows
event_shows m c s (runs d) k is shows = run_shows m c d most_steps s k is shows
event_shows m c s (closes d) k is shows = change_shows c d (λ a. record a { closing = true }) s k (λ a. refl) shows
event_shows m c s (drops d) k is shows = unset_shows c d s.conns k (λ other. shows)
event_shows m c s tells_log k is shows = subst (Shows c s.conns) (sym (entries_tell_none c k 0 s.history)) shows

events_show : (m : ModuleTree) (c : ℕ) (es : List Event) (s : Stage) (k : Client) → IsSoundStage m s → Shows c s.conns k → Shows c (stage_after m s es).conns (client_after m c s k es)
events_show m c [] s k is shows = shows
events_show m c (e ∷ es) s k is shows = events_show m c es (after m s e).stage (told_event c e k (after m s e).lines) (event_comes m s is e).sound (event_shows m c s e k is shows)

pub clients_are_told : (m : ModuleTree) (es : List Event) → ClientsAreTold m es
clients_are_told m es c a at = events_show m c es opening new_client (opening_sound m) (λ b e. none_there b e) a at
