-- What events play is one log.
use Rattle.std.proofs.Common.{◌≡◌, ℕ, List, [], ◌∷◌, ◌++◌, Option, None, Some, refl, sym, ap, ◌∙◌, subst, append_assoc, append-nil}
use Rattle.std.specs.Option.{option_map_or}
use Rattle.fn_tree.specs.Course.{Reply}
use Rattle.fn_tree.specs.History.{Entry, History, IsLegal}
use Rattle.fn_tree.specs.SyntaxTree.{ModuleTree}
use Rattle.fn_tree.specs.declared.entry.Call.{Call}
use Rattle.fn_tree.proofs.LegalHistories.{go_on_by_runs}
use Rattle.cv_stand.specs.EntryLines.{reply_line}
use Rattle.cv_stand.specs.Events.{Event, sets_clock, calls, tells_log, Request}
use Rattle.cv_stand.specs.Plays.{Stage, IsOneLog, after, after_request, call_at, found, next_entry, opening, output, pair_in, play, told_by, telling}
use Rattle.cv_stand.proofs.Entries.{pair_in as call_pair, unknown_pair, found_front, call_found, after_known, after_new}

-- ---- one event

-- a new entry
new_legal : (m : ModuleTree) (h : History) (call : Call) → IsLegal m h → found h (call_pair call) ≡ None → IsLegal m (h ++ next_entry m h call ∷ [])
new_legal m h call l none =
    go_on_by_runs m h (next_entry m h call) l (record { reply = refl; writes = refl }) (unknown_pair h (call_pair call) none)

-- an event makes a history go on, and it stays legal
record GoesOn (m : ModuleTree) (h after : History) : Type 0 where
  more : History
  is : after ≡ h ++ more
  legal : IsLegal m after

stays : (m : ModuleTree) (h : History) → IsLegal m h → GoesOn m h h
stays m h l = record { more = []; is = sym (append-nil h); legal = l }

request_goes_on : (m : ModuleTree) (s : Stage) (r : Request) → IsLegal m s.history → GoesOn m s.history (after_request m s r)
request_goes_on m s r l = go (found s.history (pair_in r)) refl
  where
    call : Call
    call = call_at s.clock r

    go : (o : Option (ℕ × Reply)) → found s.history (pair_in r) ≡ o → GoesOn m s.history (after_request m s r)
    go (Some f) e = subst (λ (x : History). GoesOn m s.history x) (sym (after_known m s.history call f e)) (stays m s.history l)
    go None e =
        let made : Entry = next_entry m s.history call in
        record { more = made ∷ []; is = after_new m s.history call e; legal = subst (IsLegal m) (sym (after_new m s.history call e)) (new_legal m s.history call l e) }

event_goes_on : (m : ModuleTree) (s : Stage) (e : Event) → IsLegal m s.history → GoesOn m s.history (after m s e).history
event_goes_on m s (sets_clock now) l = stays m s.history l
event_goes_on m s (calls r) l = request_goes_on m s r l
event_goes_on m s tells_log l = stays m s.history l

-- what an event tells stays so in each later history
told_later : (m : ModuleTree) (s : Stage) (more final : History) (e : Event) → final ≡ (after m s e).history ++ more → output m s e ≡ told_by final s.history e
told_later m s more final (sets_clock now) is = refl
told_later m s more final (calls r) is =
    let f = call_found m s.history (call_at s.clock r) in
    let later : found final (pair_in r) ≡ Some f.0 = ap (λ (x : History). found x (pair_in r)) is ∙ found_front (after_request m s r) more (pair_in r) f.0 f.1 in
    ap (λ (o : Option (ℕ × Reply)). option_map_or (λ g. reply_line g.0 g.1 ∷ []) o []) (f.1 ∙ sym later)
told_later m s more final tells_log is = refl

-- ---- all events

-- from a stage on, events add entries, and tell by the final history
record Tells (m : ModuleTree) (s : Stage) (es : List (ℕ × Event)) : Type 0 where
  more : History
  history : (play m s es).last.history ≡ s.history ++ more
  legal : IsLegal m (play m s es).last.history
  told : (play m s es).lines ≡ telling m (play m s es).last.history s es

tells : (m : ModuleTree) (s : Stage) (es : List (ℕ × Event)) → IsLegal m s.history → Tells m s es
tells m s [] l = record { more = []; history = sym (append-nil s.history); legal = l; told = refl }
tells m s (e ∷ es) l =
    let g = event_goes_on m s e.1 l in
    let r = tells m (after m s e.1) es g.legal in
    let final : History = (play m (after m s e.1) es).last.history in
    record {
      more = g.more ++ r.more;
      history = r.history ∙ ap (λ (x : History). x ++ r.more) g.is ∙ append_assoc s.history g.more r.more;
      legal = r.legal;
      told = λ i. told_later m s r.more final e.1 r.history i ++ r.told i;
    }

pub one_log : (m : ModuleTree) (es : List (ℕ × Event)) → IsOneLog m es
one_log m es = let t = tells m opening es (record { runs = tt; once = tt }) in record { legal = t.legal; told = t.told }
