-- The end of a transition.
use Rattle.std.proofs.Common.{◌≡◌, ℕ, ◌≤◌, Bool, true, false, ◌||◌, cond, List, [], ◌∷◌, length, take, Option, Some, None, refl, sym, ap, ◌∙◌, subst, eq-eqb, arith}
use Rattle.std.specs.Prelude.{◌==◌, nat_lt, is_some, option_map}
use Rattle.cv_store.specs.FirstTouch.{first_touch_places}
use Rattle.fn_tree.specs.History.{History, IsLegal}
use Rattle.fn_tree.specs.Schemas.{schema_of}
use Rattle.fn_tree.specs.SyntaxTree.{ModuleTree}
use Rattle.sync_msgs.specs.Clients.{Client, same_version, with_shown, fold_message}
use Rattle.sync_msgs.specs.Messages.{Shown, ServerMessage, transition}
use Rattle.sync_msgs.specs.Numbered.{Numbered, at_number, each_number}
use Rattle.sync_msgs.specs.declared.version.Version.{Version}
use Rattle.sync_msgs.proofs.Numbers.{each_found}
use Rattle.sync_session.specs.Conns.{Conn, Subscribed, rests, is_due}
use Rattle.sync_session.specs.Showing.{run_at, reply_at, is_stale, any_stale_of, last_reply, shown_of}
use Rattle.sync_session.specs.Sound.{StepIsSound}
use Rattle.sync_session.specs.Stepping.{settled, any_stale, ends_at, sends, goes}
use Rattle.sync_session.specs.UpToDate.{IsUpToDate}
use Rattle.sync_session.specs.declared.went.Went.TheVariants.{Moved}
use Rattle.sync_session.proofs.Answers.{answer_of, AreFresh, all_told}
use Rattle.sync_session.proofs.Histories.{answer_stays}

pub some_same : {X : Type 0} (x y : X) → ◌≡◌ {A = Option X} (Some x) (Some y) → x ≡ y
some_same x y e = cc

or_false : (a b : Bool) → (a || b) ≡ false → a ≡ false
or_false true b e = cc
or_false false b e = refl

none_of : {X : Type 0} (o : Option X) → is_some o ≡ false → o ≡ None
none_of None e = refl
none_of (Some x) e = cc

-- each answer was given at a timestamp up to the position
abbrev pub AreAnswered : (position : ℕ) → Numbered Subscribed → Type 0
AreAnswered position qs = (id : ℕ) (s : Subscribed) (ts : ℕ) → at_number id qs ≡ Some s → s.at ≡ Some ts → ts ≤ position

-- where none is stale, each isn't
pub none_stale : (m : ModuleTree) (h : History) (n : ℕ) (qs : Numbered Subscribed) → any_stale_of m h n qs ≡ false
    → (id : ℕ) (s : Subscribed) → at_number id qs ≡ Some s → is_stale m h n s ≡ false
none_stale m h n [] e id s at = absurd (let never : ◌≡◌ {A = Option Subscribed} None (Some s) = at in cc)
none_stale m h n (p ∷ qs) e id s at = go (is_stale m h n p.1) refl e at (λ f at. none_stale m h n qs f id s at)
  where
    here : (b : Bool) → is_stale m h n p.1 ≡ false → (at_number id qs ≡ Some s → is_stale m h n s ≡ false) → cond b (Some p.1) (at_number id qs) ≡ Some s → is_stale m h n s ≡ false
    here true f ih at = subst (λ (x : Subscribed). is_stale m h n x ≡ false) (some_same p.1 s at) f
    here false f ih at = ih at

    go : (b : Bool) → is_stale m h n p.1 ≡ b → elim b [ true ↦ true | false ↦ any_stale_of m h n qs ] ≡ false → cond (p.0 == id) (Some p.1) (at_number id qs) ≡ Some s
        → (any_stale_of m h n qs ≡ false → at_number id qs ≡ Some s → is_stale m h n s ≡ false) → is_stale m h n s ≡ false
    go true f e at ih = absurd (cc)
    go false f e at ih = here (p.0 == id) f (ih e) at

-- the last reply of a query that isn't stale is its answer at the position
pub fresh_one : (m : ModuleTree) (h : History) (n : ℕ) (s : Subscribed) → IsLegal m h → ((ts : ℕ) → s.at ≡ Some ts → ts ≤ n) → is_stale m h n s ≡ false
    → last_reply m h s ≡ Some (reply_at m h s.query n)
fresh_one m h n s legal le e = go s.at le e
  where
    go : (at : Option ℕ) → ((ts : ℕ) → at ≡ Some ts → ts ≤ n) → is_stale m h n (record s { at = at }) ≡ false → option_map (reply_at m h s.query) at ≡ Some (reply_at m h s.query n)
    go None le e = absurd (cc)
    go (Some ts) le e =
        let none = none_of (first_touch_places (schema_of m.tables) (run_at m h s.query ts).reads (take n h) ts) e in
        ap Some (answer_stays m h s.query ts n legal (le ts refl) none)

pub all_fresh : (m : ModuleTree) (h : History) (n : ℕ) (qs : Numbered Subscribed) → IsLegal m h → AreAnswered n qs → any_stale_of m h n qs ≡ false → AreFresh m h n qs
all_fresh m h n qs legal le e id s at = fresh_one m h n s legal (λ ts is. le id s ts at is) (none_stale m h n qs e id s at)

-- ---- settled queries

settled_at : (id : ℕ) (qs : Numbered Subscribed) → at_number id (each_number settled qs) ≡ option_map settled (at_number id qs)
settled_at id qs = each_found settled id qs

settled_answer : (m : ModuleTree) (h : History) (ts : ℕ) (o : Option Subscribed) → answer_of m h ts (option_map settled o) ≡ answer_of m h ts o
settled_answer m h ts None = refl
settled_answer m h ts (Some s) = refl

settled_answered : (n : ℕ) (qs : Numbered Subscribed) → AreAnswered n qs → AreAnswered n (each_number settled qs)
settled_answered n qs le id s ts at is = go (at_number id qs) refl (sym (settled_at id qs) ∙ at)
  where
    go : (o : Option Subscribed) → at_number id qs ≡ o → option_map settled o ≡ Some s → ts ≤ n
    go None e f = absurd (cc)
    go (Some q) e f = le id q ts e (ap (λ (x : Subscribed). x.at) (some_same (settled q) s f) ∙ is)

-- ---- the end

same_self : (v : Version) → same_version v v ≡ true
same_self v = rw (eq-eqb v.query_set v.query_set refl, eq-eqb v.identity v.identity refl, eq-eqb v.ts v.ts refl)

module _ (m : ModuleTree) (h : History) (ts : ℕ) (b c : Conn) (same : c.client ≡ b.client) (legal : IsLegal m h) (at_end : ts ≡ c.position) (within : c.position ≤ length h) (shown : c.client.version.ts ≤ c.position)
    (answered : AreAnswered c.position c.queries) (settled_is : c.changed ≡ false → c.client.version.query_set ≡ c.query_set) (none : any_stale m h c ≡ false) where
  abbrev what : List Shown
  what = shown_of m h c.queries c.client.results

  abbrev end : Version
  end = record { query_set = c.query_set; identity = 0; ts = ts }

  abbrev message : ServerMessage
  message = transition c.client.version end what

  abbrev done : Conn
  done = record c { queries = each_number settled c.queries; changed = false; work = rests }

  abbrev shows_now : Client
  shows_now = record { version = end; results = with_shown what c.client.results }

  told_is : fold_message c.client message ≡ shows_now
  told_is = ap (λ (x : Bool). cond x shows_now c.client) (same_self c.client.version)

  fresh : AreFresh m h ts c.queries
  fresh = subst (λ (n : ℕ). AreFresh m h n c.queries) (sym at_end) (all_fresh m h c.position c.queries legal answered none)

  up : IsUpToDate m h (each_number settled c.queries) shows_now
  up = record {
    within = omega (arith, at_end, within);
    results = λ id.
        all_told m h ts c.queries c.client.results fresh id
        ∙ sym (ap (answer_of m h ts) (settled_at id c.queries) ∙ settled_answer m h ts (at_number id c.queries));
  }

  sent_now : StepIsSound m h b (sends message Moved (record done { client = shows_now }))
  sent_now = record {
    legal = legal;
    sound = record { within = within; shown = omega (arith, at_end); answered = settled_answered c.position c.queries answered; settled = λ e. refl; work = tt };
    told = (sym told_is ∙ ap (λ (k : Client). fold_message k message) same, (ap (λ (k : Client). k.version) same, refl, omega (arith, at_end, shown), refl, up));
  }

  sent : StepIsSound m h b (sends message Moved (record done { client = fold_message c.client message }))
  sent = subst (λ (k : Client). StepIsSound m h b (sends message Moved (record done { client = k }))) (sym told_is) sent_now

  unsent : c.changed ≡ false → StepIsSound m h b (goes Moved done)
  unsent unchanged = record {
    legal = legal;
    sound = record { within = within; shown = shown; answered = settled_answered c.position c.queries answered; settled = λ e. settled_is unchanged; work = tt };
    told = same;
  }

  pub end_is_sound : StepIsSound m h b (ends_at m h ts c)
  end_is_sound = go (is_due c || nat_lt 0 (length what)) refl
    where
      go : (x : Bool) → (is_due c || nat_lt 0 (length what)) ≡ x → StepIsSound m h b (elim x [ true ↦ sends message Moved (record done { client = fold_message c.client message }) | false ↦ goes Moved done ])
      go true e = sent
      go false e = unsent (or_false c.changed (nat_lt c.client.version.ts c.owed) (or_false (is_due c) (nat_lt 0 (length what)) e))
