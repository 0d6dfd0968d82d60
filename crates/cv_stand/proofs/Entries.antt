-- The entry of a session's request in a history.
use Rattle.std.proofs.Common.{◌≡◌, ℕ, ◌+◌, [], ◌∷◌, ◌++◌, Bool, true, cond, length, eq-eqb, Option, Some, None, refl, sym, ap, ◌∙◌}
use Rattle.std.specs.Prelude.{is_some}
use Rattle.std.specs.Option.{option_or}
use Rattle.fn_tree.specs.Course.{Reply}
use Rattle.fn_tree.specs.History.{Entry, History, Pair, HasNoPair}
use Rattle.fn_tree.specs.SyntaxTree.{ModuleTree}
use Rattle.fn_tree.specs.declared.entry.Call.{Call}
use Rattle.cv_store.proofs.KeptLaws.{kept_stays, kept_with_entry, not_kept_is_new}
use Rattle.cv_store.specs.Kept.{is_of}
use Rattle.cv_store.specs.Turns.{one_more}
use Rattle.cv_stand.specs.Events.{calls}
use Rattle.cv_stand.specs.Plays.{after_call, found, next_entry, request_of, runs_after}

abbrev Found : Type 0
Found = ℕ × Reply

-- whether an entry has this session and request
abbrev has_pair : Pair → Entry → Bool
has_pair pair e = is_of pair.0 pair.1 e

abbrev pub pair_in : Call → Pair
pair_in c = (c.session, c.request)

-- ---- histories that go on

pub unknown_pair : (h : History) (pair : Pair) → found h pair ≡ None → HasNoPair pair h
unknown_pair h pair none = not_kept_is_new pair.0 pair.1 h none

pub found_front : (h more : History) (pair : Pair) (f : ℕ × Reply) → found h pair ≡ Some f → found (h ++ more) pair ≡ Some f
found_front h more pair f e = kept_stays pair.0 pair.1 h more f e

pub found_end : (h : History) (e : Entry) (pair : Pair) → found h pair ≡ None → found (h ++ e ∷ []) pair ≡ cond (has_pair pair e) (Some (length h + 1, e.reply)) None
found_end h e pair none =
    kept_with_entry pair.0 pair.1 h e ∙ ap (λ (o : Option Found). option_or o (cond (has_pair pair e) (Some (length h + 1, e.reply)) None)) none

-- ---- a call's own entry

pub own_pair : (call : Call) (e : Entry) → e.call ≡ call → has_pair (pair_in call) e ≡ true
own_pair call e is =
    rw (eq-eqb e.call.session call.session (ap (λ (c : Call). c.session) is), eq-eqb e.call.request call.request (ap (λ (c : Call). c.request) is))

-- after a call there is its entry
pub call_found : (m : ModuleTree) (h : History) (call : Call) → (f : ℕ × Reply) × (found (after_call m h call) (pair_in call) ≡ Some f)
call_found m h call = go (found h (pair_in call)) refl
  where
    made : Entry
    made = next_entry m h call

    go : (o : Option Found) → found h (pair_in call) ≡ o → (f : ℕ × Reply) × (found (cond (is_some o) h (h ++ made ∷ [])) (pair_in call) ≡ Some f)
    go (Some f) e = (f, e)
    go None e = ((length h + 1, made.reply), found_end h made (pair_in call) e ∙ ap (λ (b : Bool). cond b (Some (length h + 1, made.reply)) None) (own_pair call made refl))

-- the two cases of a call
pub after_known : (m : ModuleTree) (h : History) (call : Call) (f : ℕ × Reply) → found h (pair_in call) ≡ Some f → after_call m h call ≡ h
after_known m h call f e = rw e

pub after_new : (m : ModuleTree) (h : History) (call : Call) → found h (pair_in call) ≡ None → after_call m h call ≡ h ++ next_entry m h call ∷ []
after_new m h call e = rw e

-- and the runs that it starts
pub counts_known : (h : History) (call : Call) (f : ℕ × Reply) (n : ℕ) → found h (pair_in call) ≡ Some f → runs_after h (calls (request_of call)) n ≡ n
counts_known h call f n e = rw e

pub counts_new : (h : History) (call : Call) (n : ℕ) → found h (pair_in call) ≡ None → runs_after h (calls (request_of call)) n ≡ one_more n
counts_new h call n e = rw e
