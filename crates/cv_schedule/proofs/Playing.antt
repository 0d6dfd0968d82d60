-- Events leave a sound stage, and each of their steps tells the truth.
use Rattle.std.proofs.Common.{◌≡◌, ℕ, [], ◌∷◌, ◌++◌, List, length, ◌+◌, true, Option, Some, None, refl, sym, ap, subst, arith}
use Rattle.std.proofs.lemmas.List.{take_all}
use Rattle.cv_store.specs.Kept.{kept}
use Rattle.cv_store.specs.Stores.{GoesOn}
use Rattle.fn_tree.specs.Course.{Reply}
use Rattle.fn_tree.specs.History.{Entry, History, IsLegal, docs_after, docs_at, start_of}
use Rattle.fn_tree.specs.Run.{run}
use Rattle.fn_tree.specs.SyntaxTree.{ModuleTree}
use Rattle.fn_tree.specs.declared.entry.Call.{Call}
use Rattle.fn_tree.proofs.LegalHistories.{go_on_by_runs}
use Rattle.sync_msgs.specs.Numbered.{Numbered, at_number, with_number}
use Rattle.sync_session.specs.Conns.{Conn, new_conn, Request, call_at}
use Rattle.sync_session.specs.Sound.{IsSound}
use Rattle.cv_store.proofs.KeptLaws.{not_kept_is_new}
use Rattle.cv_schedule.specs.Schedules.{Attached, Stage, new_attached, Event, sets_clock, calls, opens, receives, steps, runs, closes, drops, tells_log, Turn, replies, most_steps, call_turn, made_by, change_conn, after, opening}
use Rattle.cv_schedule.specs.Turns.{StepsOf, EachStep, IsSoundStage, stage_after, is_told, TellsTruly}
use Rattle.cv_schedule.proofs.Longer.{goes_by, goes_self, sound_later}
use Rattle.cv_schedule.proofs.Turning.{AreSound, set_sound, unset_sound, ComesTo, stays_at, comes_by, step_comes, step_told, run_comes, run_told}

new_sound : (h : History) → IsSound h new_conn
new_sound h = record { within = omega arith; shown = omega arith; answered = λ id s ts at is. absurd (let no : _ = at in cc); settled = λ e. refl; work = tt }

module _ (m : ModuleTree) (s : Stage) (is : IsSoundStage m s) where
  with_conns : (conns : Numbered Attached) → AreSound s.history conns → ComesTo m s (record s { conns = conns })
  with_conns conns all = record { sound = record { legal = is.legal; conns = all }; goes = goes_self s.history }

  change_comes : (c : ℕ) (f : Attached → Attached) → ((a : Attached) → (f a).conn ≡ a.conn) → ComesTo m s (change_conn c f s)
  change_comes c f same = go (at_number c s.conns) refl
    where
      go : (o : Option Attached) → at_number c s.conns ≡ o → ComesTo m s (elim o [ None ↦ s | Some a ↦ record s { conns = with_number c (f a) s.conns } ])
      go None e = stays_at m s is
      go (Some a) e = with_conns (with_number c (f a) s.conns)
          (set_sound s.history c (f a) s.conns (subst (λ (k : Conn). IsSound s.history k) (sym (same a)) (is.conns c a e)) is.conns)

  call_legal : (r : Request) → kept r.session r.request s.history ≡ None → IsLegal m (s.history ++ made_by m s r ∷ [])
  call_legal r new =
      let call : Call = call_at s.clock r in
      let all : docs_at s.history (length s.history) ≡ docs_after s.history [] = ap (λ (h : History). docs_after h []) (take_all (length s.history) s.history (omega arith)) in
      go_on_by_runs m s.history (made_by m s r) is.legal
      (record { reply = ap (λ ds. (run m (start_of call) ds).reply) all; writes = ap (λ ds. (run m (start_of call) ds).writes) all })
      (not_kept_is_new r.session r.request s.history new)

  call_comes : (r : Request) → ComesTo m s (call_turn m s r).stage
  call_comes r = go (kept r.session r.request s.history) refl
    where
      made : Entry
      made = made_by m s r

      go : (k : Option (ℕ × Reply)) → kept r.session r.request s.history ≡ k
          → ComesTo m s (let t : Turn = elim k [
            | Some k ↦ record { stage = s; lines = replies k.0 k.1 ∷ []; rests = true }
            | None ↦ record { stage = record s { history = s.history ++ made ∷ [] }; lines = replies (length s.history + 1) made.reply ∷ []; rests = true }
          ] in t.stage)
      go (Some k) e = stays_at m s is
      go None e = record {
        sound = record { legal = call_legal r e; conns = λ c a at. sound_later s.history (s.history ++ made ∷ []) a.conn (made ∷ [], refl) (is.conns c a at) };
        goes = (made ∷ [], refl);
      }

  pub event_comes : (e : Event) → ComesTo m s (after m s e).stage
  event_comes (sets_clock now) = record { sound = record { legal = is.legal; conns = is.conns }; goes = goes_self s.history }
  event_comes (calls r) = call_comes r
  event_comes (opens c) = with_conns (with_number c new_attached s.conns) (set_sound s.history c new_attached s.conns (new_sound s.history) is.conns)
  event_comes (receives c text) = change_comes c (λ a. record a { texts = a.texts ++ text ∷ [] }) (λ a. refl)
  event_comes (steps c) = step_comes m c s is
  event_comes (runs c) = run_comes m c most_steps s is
  event_comes (closes c) = change_comes c (λ a. record a { closing = true }) (λ a. refl)
  event_comes (drops c) = with_conns _ (unset_sound s.history c s.conns is.conns)
  event_comes tells_log = stays_at m s is

  event_told : (e : Event) (last : History) → GoesOn (after m s e).stage.history last → StepsOf (is_told m last) m s e
  event_told (steps c) last on = step_told m c s last is on
  event_told (runs c) last on = run_told m c most_steps s last is on
  event_told (sets_clock now) last on = tt
  event_told (calls r) last on = tt
  event_told (opens c) last on = tt
  event_told (receives c text) last on = tt
  event_told (closes c) last on = tt
  event_told (drops c) last on = tt
  event_told tells_log last on = tt

pub events_come : (m : ModuleTree) (es : List Event) (s : Stage) → IsSoundStage m s → ComesTo m s (stage_after m s es)
events_come m [] s is = stays_at m s is
events_come m (e ∷ es) s is =
    let one = event_comes m s is e in
    comes_by m s (after m s e).stage (stage_after m (after m s e).stage es) one (events_come m es (after m s e).stage one.sound)

pub events_told : (m : ModuleTree) (es : List Event) (s : Stage) (last : History) → IsSoundStage m s → GoesOn (stage_after m s es).history last → EachStep (is_told m last) m s es
events_told m [] s last is on = tt
events_told m (e ∷ es) s last is on =
    let one = event_comes m s is e in
    let rest = events_come m es (after m s e).stage one.sound in
    (event_told m s is e last (goes_by (after m s e).stage.history (stage_after m (after m s e).stage es).history last rest.goes on), events_told m es (after m s e).stage last one.sound on)

pub opening_sound : (m : ModuleTree) → IsSoundStage m opening
opening_sound m = record { legal = record { runs = tt; once = tt }; conns = λ c a at. absurd (let no : _ = at in cc) }

pub tells_truly : (m : ModuleTree) (es : List Event) → TellsTruly m es
tells_truly m es =
    let end = events_come m es opening (opening_sound m) in
    record { legal = end.sound.legal; told = events_told m es opening (stage_after m opening es).history (opening_sound m) (goes_self (stage_after m opening es).history) }
