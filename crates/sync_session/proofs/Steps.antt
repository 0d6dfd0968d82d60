-- Each step is sound.
use Rattle.std.proofs.Common.{◌≡◌, ℕ, ℤ, ◌+◌, ◌≤◌, Bool, true, false, ◌&&◌, [], ◌∷◌, ◌++◌, length, drop, Option, Some, None, Result, Ok, Err, refl, sym, ap, ◌∙◌, subst, arith}
use Rattle.std.specs.Prelude.{◌==◌, nat_lt}
use Rattle.std.proofs.lemmas.Bool.{ltb-false}
use Rattle.cv_store.specs.FirstTouch.{first_touch_places}
use Rattle.cv_store.specs.Kept.{kept}
use Rattle.cv_store.specs.Marks.{marks_by_entry}
use Rattle.cv_store.specs.Tails.{entries_taken, tail_from}
use Rattle.cv_store.specs.declared.conflict.Conflict.{Conflict}
use Rattle.fn_tree.specs.Course.{Reply, gives, failed}
use Rattle.fn_tree.specs.History.{Entry, History, IsLegal}
use Rattle.fn_tree.specs.Schemas.{schema_of}
use Rattle.fn_tree.specs.SyntaxTree.{ModuleTree}
use Rattle.fn_tree.specs.declared.entry.Call.{Call}
use Rattle.cv_store.specs.declared.tail.Tail.{Tail}
use Rattle.sync_msgs.specs.Clients.{Client}
use Rattle.sync_msgs.specs.Messages.{ClientMessage, connects, modifies, requests, notes}
use Rattle.sync_msgs.specs.Numbered.{Numbered}
use Rattle.sync_msgs.specs.declared.cause.Cause.{Cause}
use Rattle.sync_msgs.specs.declared.cause.Cause.TheVariants.{NotConnected, ConnectedTwice, TimestampAhead, VersionMismatch}
use Rattle.sync_session.specs.Applying.{after_changes, is_ahead, after_message}
use Rattle.sync_session.specs.Conns.{Conn, Request, call_at, Try, Work, rests, mutates, answers, goes_to, Subscribed, Heard, is_due}
use Rattle.sync_session.specs.Sound.{HasEntry, IsTryOf, IsWorkOf, IsSound, StepIsSound, StepsAreSound}
use Rattle.sync_session.specs.Stepping.{Input, got, quiet, closed, goes, response, run_of, entry_of, begin_step, commit_step, try_step, mutation_step, with_answer, any_stale, ends_at, answer_step, tail_step, refusal, applies, text_step, input_step, rest_step, work_step}
use Rattle.sync_session.specs.declared.went.Went.{Went}
use Rattle.sync_session.specs.declared.went.Went.TheVariants.{Moved, Idle, SentBack}
use Rattle.sync_session.proofs.Endings.{AreAnswered, end_is_sound}
use Rattle.sync_session.proofs.Growing.{sound_stays}
use Rattle.sync_session.proofs.Histories.{commit_legal}
use Rattle.sync_session.proofs.Kept.{kept_end}
use Rattle.sync_session.proofs.QuerySets.{with_answered, AreChanged, changed_answered}

-- ---- what is under way

resting : (h : History) (d : Conn) (w : Work) → w ≡ rests → IsWorkOf h d w
resting h d w e = subst (λ (x : Work). IsWorkOf h d x) (sym e) tt

same_work : (h : History) (c d : Conn) → d.session ≡ c.session → d.position ≡ c.position → (w : Work) → IsWorkOf h c w → IsWorkOf h d w
same_work h c d session position rests own = tt
same_work h c d session position (mutates r t) own = (session ∙ own.0, own.1)
same_work h c d session position (answers r ts reply) own = subst (λ (s : Option ℕ). HasEntry h s r.request ts reply) (sym session) own
same_work h c d session position (goes_to ts) own = own ∙ sym position

-- ---- a mutation

-- the response with an entry that is there
response_sound : (m : ModuleTree) (h : History) (b c : Conn) (request ts : ℕ) (reply : Reply) → c.client ≡ b.client → c.session ≡ b.session → IsLegal m h → c.position ≤ length h → c.client.version.ts ≤ c.position
    → AreAnswered c.position c.queries → (c.changed ≡ false → c.client.version.query_set ≡ c.query_set) → HasEntry h b.session request ts reply → StepIsSound m h b (response request ts reply c)
response_sound m h b c request ts (gives v) same own legal within shown answered settled has =
    record { legal = legal; sound = record { within = within; shown = shown; answered = answered; settled = settled; work = tt }; told = (same, has) }
response_sound m h b c request ts (failed why) same own legal within shown answered settled has =
    record { legal = legal; sound = record { within = within; shown = shown; answered = answered; settled = settled; work = tt }; told = (same, has) }

has_entry : (h : History) (session : Option ℕ) (own request ts : ℕ) (reply : Reply) → session ≡ Some own → kept own request h ≡ Some (ts, reply) → HasEntry h session request ts reply
has_entry h session own request ts reply e k = subst (λ (s : Option ℕ). HasEntry h s request ts reply) (sym e) k

module _ (m : ModuleTree) (h : History) (now : ℤ) (c : Conn) (legal : IsLegal m h) (is : IsSound h c) where
  -- nothing is sent, and only what is under way changes
  works_on : (went : Went) (w : Work) → IsWorkOf h c w → StepIsSound m h c (goes went (record c { work = w }))
  works_on went rests own = record { legal = legal; sound = record { within = is.within; shown = is.shown; answered = is.answered; settled = is.settled; work = own }; told = refl }
  works_on went (mutates r t) own = record { legal = legal; sound = record { within = is.within; shown = is.shown; answered = is.answered; settled = is.settled; work = own }; told = refl }
  works_on went (answers request ts reply) own = record { legal = legal; sound = record { within = is.within; shown = is.shown; answered = is.answered; settled = is.settled; work = own }; told = refl }
  works_on went (goes_to ts) own = record { legal = legal; sound = record { within = is.within; shown = is.shown; answered = is.answered; settled = is.settled; work = own }; told = refl }

  answer_known : (request own : ℕ) (k : ℕ × Reply) → c.session ≡ Some own → kept own request h ≡ Some k → StepIsSound m h c (response request k.0 k.1 c)
  answer_known request own k e has = response_sound m h c c request k.0 k.1 refl refl legal is.within is.shown is.answered is.settled (has_entry h c.session own request k.0 k.1 e has)

  module _ (r : Request) (own : c.session ≡ Some r.session) where
    begin_sound : StepIsSound m h c (begin_step h now r c)
    begin_sound = go (kept r.session r.request h) refl
      where
        go : (k : Option (ℕ × Reply)) → kept r.session r.request h ≡ k
            → StepIsSound m h c (elim k [ Some k ↦ response r.request k.0 k.1 c | None ↦ goes Moved (record c { work = mutates r (Some (record { call = call_at now r; snapshot = length h; reads = 0 })) }) ])
        go (Some k) e = answer_known r.request r.session k own e
        go None e = works_on Moved (mutates r (Some (record { call = call_at now r; snapshot = length h; reads = 0 }))) (own, (refl, omega arith))

    module _ (t : Try) (call : t.call ≡ call_at t.call.now r) (snapshot : t.snapshot ≤ length h) where
      abbrev made : Entry
      made = entry_of t.call (run_of m h t)

      appended : kept t.call.session t.call.request h ≡ None → first_touch_places (schema_of m.tables) (run_of m h t).reads h t.snapshot ≡ None
          → StepIsSound m h c (record (response r.request (length h + 1) made.reply c) { entry = Some made })
      appended new none =
          let after : History = h ++ made ∷ [] in
          let grown : IsSound after c = sound_stays h (made ∷ []) c is in
          let same : kept t.call.session t.call.request after ≡ Some (length h + 1, made.reply) =
          kept_end t.call.session t.call.request h made new refl refl in
          let its : kept r.session r.request after ≡ Some (length h + 1, made.reply) =
          subst (λ (x : Call). kept x.session x.request after ≡ Some (length h + 1, made.reply)) call same in
          let step : StepIsSound m after c (response r.request (length h + 1) made.reply c) =
          response_sound m after c c r.request (length h + 1) made.reply refl refl (commit_legal m h t.call t.snapshot legal new none) grown.within grown.shown grown.answered grown.settled
          (has_entry after c.session r.session r.request (length h + 1) made.reply own its) in
          of_reply made.reply step
        where
          of_reply : (reply : Reply) → StepIsSound m (h ++ made ∷ []) c (response r.request (length h + 1) reply c)
              → StepIsSound m h c (record (response r.request (length h + 1) reply c) { entry = Some made })
          of_reply (gives v) s = record { legal = s.legal; sound = s.sound; told = s.told }
          of_reply (failed why) s = record { legal = s.legal; sound = s.sound; told = s.told }

      commit_sound : StepIsSound m h c (commit_step m h r t c)
      commit_sound = go (kept t.call.session t.call.request h) (first_touch_places (schema_of m.tables) (run_of m h t).reads h t.snapshot) refl refl
        where
          go : (k : Option (ℕ × Reply)) (touch : Option Conflict) → kept t.call.session t.call.request h ≡ k → first_touch_places (schema_of m.tables) (run_of m h t).reads h t.snapshot ≡ touch
              → StepIsSound m h c (elim k [
                | Some k ↦ response r.request k.0 k.1 c
                | None ↦ elim touch [
                  | Some touch ↦ goes (SentBack touch) (record c { work = mutates r None })
                  | None ↦ record (response r.request (length h + 1) made.reply c) { entry = Some made }
                ]
              ])
          go (Some k) touch e f = answer_known r.request r.session k own (subst (λ (x : Call). kept x.session x.request h ≡ Some k) call e)
          go None (Some touch) e f = works_on (SentBack touch) (mutates r None) (own, tt)
          go None None e f = appended e f

      try_sound : StepIsSound m h c (try_step m h r t c)
      try_sound = go (nat_lt t.reads (length (run_of m h t).reads))
        where
          go : (x : Bool) → StepIsSound m h c (elim x [ true ↦ goes Moved (record c { work = mutates r (Some (record t { reads = t.reads + 1 })) }) | false ↦ commit_step m h r t c ])
          go true = works_on Moved (mutates r (Some (record t { reads = t.reads + 1 }))) (own, (call, snapshot))
          go false = commit_sound

    mutation_sound : (t : Option Try) → IsTryOf h r t → StepIsSound m h c (mutation_step m h now r t c)
    mutation_sound None own_try = begin_sound
    mutation_sound (Some t) own_try = try_sound t own_try.0 own_try.1

  -- ---- a transition under way

  answer_sound : (ts : ℕ) → ts ≡ c.position → IsWorkOf h c c.work → StepIsSound m h c (answer_step m h ts c)
  answer_sound ts at own = go (any_stale m h d) refl
    where
      d : Conn
      d = record c { queries = with_answer m h c.position ts c.queries }

      answered : AreAnswered c.position d.queries
      answered = with_answered m h c.position c.position ts c.queries (omega (arith, at)) is.answered

      go : (x : Bool) → any_stale m h d ≡ x → StepIsSound m h c (elim x [ true ↦ goes Moved d | false ↦ ends_at m h ts d ])
      go true e = record { legal = legal; sound = record { within = is.within; shown = is.shown; answered = answered; settled = is.settled; work = same_work h c d refl refl c.work own }; told = refl }
      go false e = end_is_sound m h ts c d refl legal at is.within is.shown answered is.settled e

  -- ---- a tail step

  module _ (b : Conn) (same : c.client ≡ b.client) (at_rest : c.work ≡ rests) where
    tail_sound : StepIsSound m h b (tail_step m h c)
    tail_sound = go (nat_lt t.to t.end) (any_stale m h d) (is_due d) refl refl
      where
        t : Tail
        t = tail_from (schema_of m.tables) h c.position

        d : Conn
        d = record c { position = t.to }

        taken : ℕ
        taken = entries_taken (marks_by_entry (schema_of m.tables) c.position (drop c.position h))

        later : c.position ≤ t.to
        later = let le = is.within in grind (arith, le)

        seen : t.to ≤ length h
        seen = grind (arith)

        at_end : nat_lt t.to t.end ≡ false → t.end ≡ t.to
        at_end e = let l = ltb-false t.to t.end e in let s = seen in omega (arith, l, s)

        shown : c.client.version.ts ≤ t.to
        shown = let a = later in let l = is.shown in omega (arith, a, l)

        answered : AreAnswered t.to c.queries
        answered id s ts at e = let a = later in let l = is.answered id s ts at e in omega (arith, a, l)

        stays : (went : Went) → StepIsSound m h b (goes went d)
        stays went = record { legal = legal; sound = record { within = seen; shown = shown; answered = answered; settled = is.settled; work = resting h d c.work at_rest }; told = same }

        go : (x y z : Bool) → nat_lt t.to t.end ≡ x → any_stale m h d ≡ y
            → StepIsSound m h b (elim x [
              | true ↦ goes Moved d
              | false ↦ elim y [ true ↦ goes Moved (record d { work = goes_to t.end }) | false ↦ elim z [ true ↦ ends_at m h t.end d | false ↦ goes Idle d ] ]
            ])
        go true y z e f = stays Moved
        go false true z e f = record { legal = legal; sound = record { within = seen; shown = shown; answered = answered; settled = is.settled; work = at_end e }; told = same }
        go false false true e f = end_is_sound m h t.end b d same legal (at_end e) seen shown answered is.settled f
        go false false false e f = stays Idle

    -- ---- a text

    abbrev IsFine : Result Conn Cause → Type 0
    IsFine (Ok d) = IsSound h d × (d.client ≡ b.client)
    IsFine (Err why) = Unit {0}

    fine : (d : Conn) → d.work ≡ rests → d.client ≡ c.client → d.position ≡ c.position → AreAnswered c.position d.queries → (d.changed ≡ false → d.client.version.query_set ≡ d.query_set) → IsFine (Ok d)
    fine d rest client position answered settled = (
      record {
        within = subst (λ (n : ℕ). n ≤ length h) (sym position) is.within;
        shown = let s = is.shown in let t : d.client.version.ts ≡ c.client.version.ts = ap (λ (k : Client). k.version.ts) client in omega (arith, s, t, position);
        answered = subst (λ (n : ℕ). AreAnswered n d.queries) (sym position) answered;
        settled = settled;
        work = resting h d d.work rest;
      },
      client ∙ same,
    )

    message_fine : (message : ClientMessage) → IsFine (after_message (length h) message c)
    message_fine notes = fine c at_rest refl refl is.answered is.settled
    message_fine (connects session observed) = go c.session (is_ahead observed (length h))
      where
        go : (s : Option ℕ) (x : Bool) → IsFine (elim s [ Some before ↦ Err ConnectedTwice | None ↦ elim x [ true ↦ Err TimestampAhead | false ↦ Ok (record c { session = Some session }) ] ])
        go (Some before) x = tt
        go None true = tt
        go None false = fine (record c { session = Some session }) at_rest refl refl is.answered is.settled
    message_fine (modifies base next changes) = go c.session ((base == c.query_set) && nat_lt base next) (after_changes changes c.queries) (changed_answered c.position changes c.queries is.answered)
      where
        go : (s : Option ℕ) (x : Bool) (r : Result (Numbered Subscribed) Cause) → AreChanged c.position r
            → IsFine (elim s [
              | None ↦ Err NotConnected
              | Some session ↦ elim x [
                | false ↦ Err VersionMismatch
                | true ↦ elim r [ Ok qs ↦ Ok (record c { query_set = next; queries = qs; changed = true }) | Err why ↦ Err why ]
              ]
            ])
        go None x r a = tt
        go (Some session) false r a = tt
        go (Some session) true (Ok qs) a = fine (record c { query_set = next; queries = qs; changed = true }) at_rest refl refl a (λ e. absurd (let no : ◌≡◌ {A = Bool} true false = e in cc))
        go (Some session) true (Err why) a = tt
    message_fine (requests request udf args) = go c.session refl
      where
        go : (s : Option ℕ) → c.session ≡ s
            → IsFine (elim s [ None ↦ Err NotConnected | Some session ↦ Ok (record c { work = mutates (record { session = session; request = request; udf = udf; args = args }) None }) ])
        go None e = tt
        go (Some session) e = (record { within = is.within; shown = is.shown; answered = is.answered; settled = is.settled; work = (e, tt) }, same)

    refusal_sound : (why : Cause) → StepIsSound m h b (refusal why c)
    refusal_sound why = record { legal = legal; sound = is; told = (same, tt) }

    applies_sound : (r : Result Conn Cause) → IsFine r → StepIsSound m h b (applies r c)
    applies_sound (Ok d) f = record { legal = legal; sound = f.0; told = f.1 }
    applies_sound (Err why) f = refusal_sound why

    text_sound : (text : Heard) → StepIsSound m h b (text_step h text c)
    text_sound (Err why) = refusal_sound why
    text_sound (Ok message) = applies_sound (after_message (length h) message c) (message_fine message)

    input_sound : (input : Input) → StepIsSound m h b (input_step m h input c)
    input_sound (got text) = text_sound text
    input_sound quiet = tail_sound
    input_sound closed = record { legal = legal; sound = is; told = same }

-- ---- a step

module _ (m : ModuleTree) (h : History) (now : ℤ) (c : Conn) (input : Input) (legal : IsLegal m h) (is : IsSound h c) where
  rest_sound : c.work ≡ rests → StepIsSound m h c (rest_step m h c input)
  rest_sound at_rest = go (is_due c) c.kept
    where
      taken : Conn
      taken = record c { kept = None }

      taken_is : IsSound h taken
      taken_is = record { within = is.within; shown = is.shown; answered = is.answered; settled = is.settled; work = resting h taken c.work at_rest }

      go : (x : Bool) (k : Option Heard) → StepIsSound m h c (elim x [
        | true ↦ tail_step m h c
        | false ↦ elim k [ Some text ↦ text_step h text (record c { kept = None }) | None ↦ input_step m h input c ]
      ])
      go true k = tail_sound m h now c legal is c refl at_rest
      go false (Some text) = text_sound m h now taken legal taken_is c refl at_rest text
      go false None = input_sound m h now c legal is c refl at_rest input

  work_sound : (w : Work) → c.work ≡ w → IsWorkOf h c w → StepIsSound m h c (work_step m h now c input w)
  work_sound rests e own = rest_sound e
  work_sound (mutates r t) e own = mutation_sound m h now c legal is r own.0 t own.1
  work_sound (answers r ts reply) e own = response_sound m h c c r.request ts reply refl refl legal is.within is.shown is.answered is.settled own
  work_sound (goes_to ts) e own = answer_sound m h now c legal is ts own is.work

pub steps_are_sound : StepsAreSound
steps_are_sound m h now c input legal is = work_sound m h now c input legal is c.work refl is.work
