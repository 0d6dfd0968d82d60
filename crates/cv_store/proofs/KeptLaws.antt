-- The entry of a session's request in a history that goes on.
use Rattle.std.proofs.Common.{◌≡◌, ℕ, ◌+◌, Bool, true, false, cond, [], ◌∷◌, ◌++◌, length, Some, None, refl, sym, ap, ◌∙◌, arith}
use Rattle.std.specs.Prelude.{◌==◌, ◌≢◌}
use Rattle.std.specs.Option.{option_or}
use Rattle.std.proofs.lemmas.Bool.{and_from, eq-eqb}
use Rattle.fn_tree.specs.Course.{Reply}
use Rattle.fn_tree.specs.History.{Entry, History, Pair, HasNoPair, pair_of}
use Rattle.cv_store.specs.HistoryLaws.{KeptStays, KeptWithEntry, NotKeptIsNew}
use Rattle.cv_store.specs.Kept.{is_of, kept_after, kept}

abbrev Found : Type 0
Found = ℕ × Reply

other_pair : (session request : ℕ) (e : Entry) → is_of session request e ≡ false → (session, request) ≢ pair_of e
other_pair session request e apart same =
    let s : e.call.session ≡ session = sym (ap (λ (p : Pair). p.0) same) in
    let r : e.call.request ≡ request = sym (ap (λ (p : Pair). p.1) same) in
    let both : is_of session request e ≡ true = and_from (e.call.session == session) (e.call.request == request) (eq-eqb e.call.session session s) (eq-eqb e.call.request request r) in
    let never : true ≡ false = sym both ∙ apart in
    cc

module _ (session request : ℕ) where
  no_pair : (n : ℕ) (h : History) → kept_after session request n h ≡ None → HasNoPair (session, request) h
  no_pair n [] e = tt
  no_pair n (f ∷ h) e = go (is_of session request f) refl e (no_pair (n + 1) h)
    where
      go : (b : Bool) → is_of session request f ≡ b → cond b (Some (n + 1, f.reply)) (kept_after session request (n + 1) h) ≡ None
          → (kept_after session request (n + 1) h ≡ None → HasNoPair (session, request) h) → HasNoPair (session, request) (f ∷ h)
      go true is e rest = cc
      go false is e rest = (other_pair session request f is, rest e)

  longer : (n : ℕ) (h more : History) (k : Found) → kept_after session request n h ≡ Some k → kept_after session request n (h ++ more) ≡ Some k
  longer n [] more k e = cc
  longer n (f ∷ h) more k e = go (is_of session request f) e (longer (n + 1) h more k)
    where
      go : (b : Bool) → cond b (Some (n + 1, f.reply)) (kept_after session request (n + 1) h) ≡ Some k
          → (kept_after session request (n + 1) h ≡ Some k → kept_after session request (n + 1) (h ++ more) ≡ Some k)
          → cond b (Some (n + 1, f.reply)) (kept_after session request (n + 1) (h ++ more)) ≡ Some k
      go true e rest = e
      go false e rest = rest e

  with_entry : (n m : ℕ) (h : History) (e : Entry) → m ≡ n + length h + 1
      → kept_after session request n (h ++ e ∷ []) ≡ option_or (kept_after session request n h) (cond (is_of session request e) (Some (m, e.reply)) None)
  with_entry n m [] e p =
      let same : n + 1 ≡ m = omega (arith, p) in
      ap (λ (k : ℕ). cond (is_of session request e) (Some (k, e.reply)) None) same
  with_entry n m (f ∷ h) e p = go (is_of session request f) (with_entry (n + 1) m h e (omega (arith, p)))
    where
      go : (b : Bool) → kept_after session request (n + 1) (h ++ e ∷ []) ≡ option_or (kept_after session request (n + 1) h) (cond (is_of session request e) (Some (m, e.reply)) None)
          → cond b (Some (n + 1, f.reply)) (kept_after session request (n + 1) (h ++ e ∷ []))
          ≡ option_or (cond b (Some (n + 1, f.reply)) (kept_after session request (n + 1) h)) (cond (is_of session request e) (Some (m, e.reply)) None)
      go true ih = refl
      go false ih = ih

pub kept_stays : KeptStays
unfolding kept
kept_stays session request h more k e = longer session request 0 h more k e

pub kept_with_entry : KeptWithEntry
unfolding kept
kept_with_entry session request h e = with_entry session request 0 (length h + 1) h e (omega arith)

pub not_kept_is_new : NotKeptIsNew
unfolding kept
not_kept_is_new session request h e = no_pair session request 0 h e
