-- What the pauses of a run give the steps of its job.
use Rattle.std.proofs.Common.{◌≡◌, ◌∙◌, ℕ, ◌≤◌, true, false, inl, inr, Option, Some, None, length, refl, sym, ap, subst, lt-ltb, le-ltb, le_of_eq, map}
use Rattle.std.proofs.Math.Logic.{∥∥₁_elim, ∥∥₁_map}
use Rattle.std.specs.Prelude.{IsSome, is_some, nat_lt, ◌+◌, MatchBool}
use Rattle.std.specs.Coded.{Coded-set, coded_bool, coded_ℕ, coded_list, le_prop}
use Rattle.cv_keys.specs.Documents.{index_at}
use Rattle.cv_keys.specs.Intervals.{in_bytes}
use Rattle.cv_keys.specs.contracts.interval.Interval as interval
use Rattle.cv_keys.specs.contracts.write.Write as write
use Rattle.cv_keys.specs.declared.schema.Schema.{Schema}
use Rattle.cv_run.proofs.PauseLemmas.{is_indexed, is_readable}
use Rattle.cv_run.proofs.EndLemmas.{ends_prop}
use Rattle.cv_run.proofs.RestLemmas.{reads_fewer, there_rest, end_reply, end_reads, end_ends, end_writes, end_count}
use Rattle.cv_run.proofs.StoreLemmas.{longer, docs_stay}
use Rattle.cv_run.specs.Paused.{IsPaused}
use Rattle.cv_run.specs.Pauses.{AtRead, Pauses}
use Rattle.cv_run.specs.declared.pause.Pause.{Pause}
use Rattle.cv_run.specs.declared.pause.Pause.TheVariants.{Read, End}
use Rattle.cv_store.specs.Codes.{reply_code}
use Rattle.cv_store.specs.Reads.{EndsInRange, StandsFor, IsReadable}
use Rattle.cv_store.specs.Jobs as jobs
use Rattle.cv_store.specs.Jobs.{reads_of, ended_as, StepsRead, StepsCommit, Steps, AtMostDue}
use Rattle.cv_store.specs.Stores.{Standing, GoesOn, Reads, IsRunOf, Commits}
use Rattle.cv_store.specs.Turns.{after_read, after_commit, AtMostOneTurn}
use Rattle.cv_store.specs.declared.job.JobWent.{JobWent}
use Rattle.cv_store.specs.declared.job.JobWent.TheVariants.{Moved}
use Rattle.cv_store.specs.declared.proposal.Ended.{Ended}
use Rattle.cv_store.specs.declared.proposal.Proposal.{Proposal}
use Rattle.cv_store.specs.declared.proposal.ReadReq.{ReadReq}
use Rattle.cv_tx.specs.Asks.{IsIndexed}
use Rattle.cv_tx.specs.Pending.{Under, HasDistinctIds, written}
use Rattle.cv_tx.specs.Plans.{plan_of}
use Rattle.fn_code.specs.Coding.{code_of}
use Rattle.fn_code.specs.declared.code.Code.{Code}
use Rattle.fn_tree.specs.Course.{Ask}
use Rattle.fn_tree.specs.Documents.{Docs}
use Rattle.fn_tree.specs.Functions.{Start}
use Rattle.fn_tree.specs.History.{History, start_of, docs_at}
use Rattle.fn_tree.specs.Run.{Run, run}
use Rattle.fn_tree.specs.Schemas.{schema_of}
use Rattle.fn_tree.specs.SyntaxTree.{ModuleTree}
use Rattle.fn_tree.specs.contracts.entry.Reply as held_reply
use Rattle.fn_tree.specs.declared.entry.Call.{Call}
use Rattle.fn_tree.specs.declared.entry.Reply.{Reply}
use Rattle.fn_tree.specs.declared.stop.Ask.{Ask as HeldAsk}
use Rattle.fn_tree.specs.declared.stop.Ask.TheVariants as asks
use Rattle.fn_vm.specs.Moves.{Stands}
use Rattle.fn_vm.specs.declared.machine.Machine.{Machine}
use Rattle.cv_store.specs.declared.proposal.ReadReq.TheVariants as request

-- ---- facts of which there is one proof at most

some_prop : {A : Type 0} (x : Option A) → IsProp (IsSome x)
some_prop x = Coded-set coded_bool (is_some x) true

indexed_prop : (schema : Schema) (a : HeldAsk) → IsProp (IsIndexed schema a)
indexed_prop schema (asks.Get id left) = λ p q. refl
indexed_prop schema (asks.Scan interval desc limit left) = some_prop (index_at schema interval.table interval.index)

readable_prop : (schema : Schema) (r : ReadReq) → IsProp (IsReadable schema r)
readable_prop schema (request.Get id) = λ p q. refl
readable_prop schema (request.Scan interval desc rows size) = some_prop (index_at schema interval.table interval.index)

-- ---- the same pause, seen otherwise

pub moved : (s : Start) (machine : Machine) (tx : Under) (p : Pause) (code code' : Code) (m m' : ModuleTree) (ds ds' : Docs) → code ≡ code' → m ≡ m' → ds ≡ ds'
    → Pauses code m s ds machine tx p → Pauses code' m' s ds' machine tx p
moved s machine tx p code code' m m' ds ds' e f g h =
    subst (λ (c : Code). Pauses c m' s ds' machine tx p) e (subst (λ (x : ModuleTree). Pauses code x s ds' machine tx p) f (subst (λ (d : Docs). Pauses code m s d machine tx p) g h))

module _ (m : ModuleTree) (h : History) (call : Call) (ts : ℕ) (machine : Machine) (tx : Under) where
  pub within_of : (p : Pause) → ∥ IsPaused m h call ts machine tx p ∥₁ → ts ≤ length h
  within_of p paused = ∥∥₁_elim paused le_prop (λ (x : IsPaused m h call ts machine tx p). x.within)

  pub indexed_of : (a : HeldAsk) (plan : ReadReq) → ∥ IsPaused m h call ts machine tx (Read a plan) ∥₁ → IsIndexed (schema_of m.tables) a
  indexed_of a plan paused = ∥∥₁_elim paused (indexed_prop (schema_of m.tables) a) (λ (x : IsPaused m h call ts machine tx (Read a plan)).
      let p = x.pauses in is_indexed (schema_of m.tables) a p.0 p.1 (there_rest m (start_of call) (docs_at h ts) tx.pending tx.reads p.0 p.3.next p.3.rest))

  pub readable_of : (a : HeldAsk) (plan : ReadReq) → ∥ IsPaused m h call ts machine tx (Read a plan) ∥₁ → IsReadable (schema_of m.tables) plan
  readable_of a plan paused = ∥∥₁_elim paused (readable_prop (schema_of m.tables) plan) (λ (x : IsPaused m h call ts machine tx (Read a plan)).
      let p = x.pauses in is_readable (schema_of m.tables) plan tx.pending p.0 p.2 (there_rest m (start_of call) (docs_at h ts) tx.pending tx.reads p.0 p.3.next p.3.rest))

  pub fewer_of : (a : HeldAsk) (plan : ReadReq) → ∥ IsPaused m h call ts machine tx (Read a plan) ∥₁
      → nat_lt (length tx.reads) (length (run m (start_of call) (docs_at h ts)).reads) ≡ true
  fewer_of a plan paused = ∥∥₁_elim paused (Coded-set coded_bool _ _) (λ (x : IsPaused m h call ts machine tx (Read a plan)).
      let p = x.pauses in lt-ltb _ _ (reads_fewer m (start_of call) (docs_at h ts) tx.pending tx.reads p.0 p.3.next p.3.rest))

  pub all_of : (reply told : Reply) → ∥ IsPaused m h call ts machine tx (End reply told) ∥₁
      → nat_lt (length tx.reads) (length (run m (start_of call) (docs_at h ts)).reads) ≡ false
  all_of reply told paused = ∥∥₁_elim paused (Coded-set coded_bool _ _) (λ (x : IsPaused m h call ts machine tx (End reply told)).
      let p = x.pauses in le-ltb _ _ (le_of_eq (sym (end_count m (start_of call) (docs_at h ts) tx.pending tx.reads reply p.0 p.1))))

  pub snapshot_of : (p : Pause) → ∥ IsPaused m h call ts machine tx p ∥₁ → tx.snapshot ≡ ts
  snapshot_of p paused = ∥∥₁_elim paused (Coded-set coded_ℕ _ _) (λ (x : IsPaused m h call ts machine tx p). x.snapshot)

  -- the same of the run over what was seen or more
  run_later : (s : Standing) → m ≡ s.program → GoesOn h s.seen → ts ≤ length h
      → length (run m (start_of call) (docs_at h ts)).reads ≡ length (run s.program (start_of call) (docs_at s.seen ts)).reads
  run_later s same on le =
      ap (λ (n : ModuleTree). length (run n (start_of call) (docs_at h ts)).reads) same
      ∙ ap (λ (ds : Docs). length (run s.program (start_of call) ds).reads) (sym (docs_stay h s.seen ts on le))

  pub fewer_later : (a : HeldAsk) (plan : ReadReq) (s : Standing) → m ≡ s.program → GoesOn h s.seen → ∥ IsPaused m h call ts machine tx (Read a plan) ∥₁
      → nat_lt (length tx.reads) (length (run s.program (start_of call) (docs_at s.seen ts)).reads) ≡ true
  fewer_later a plan s same on paused =
      subst (λ n. nat_lt (length tx.reads) n ≡ true) (run_later s same on (within_of (Read a plan) paused)) (fewer_of a plan paused)

  pub all_later : (reply told : Reply) (s : Standing) → m ≡ s.program → GoesOn h s.seen → ∥ IsPaused m h call ts machine tx (End reply told) ∥₁
      → nat_lt (length tx.reads) (length (run s.program (start_of call) (docs_at s.seen ts)).reads) ≡ false
  all_later reply told s same on paused =
      subst (λ n. nat_lt (length tx.reads) n ≡ false) (run_later s same on (within_of (End reply told) paused)) (all_of reply told paused)

  pub told_of : (reply told : Reply) → ∥ IsPaused m h call ts machine tx (End reply told) ∥₁ → told ≡ reply
  told_of reply told paused = ∥∥₁_elim paused (Coded-set held_reply.the_row.coded _ _) (λ (x : IsPaused m h call ts machine tx (End reply told)). x.pauses.2)

  -- the proposal of a run that has ended is the run of its call, over what was seen or more
  pub is_run_of : (reply told : Reply) (s : Standing) (p : Proposal) → m ≡ s.program → GoesOn h s.seen
      → p ≡ record { call = call; snapshot = tx.snapshot; reply = reply; writes = written reply tx.pending; reads = tx.reads }
      → ∥ IsPaused m h call ts machine tx (End reply told) ∥₁ → IsRunOf s p
  is_run_of reply told s p same on is paused =
      let made : Proposal = record { call = call; snapshot = tx.snapshot; reply = reply; writes = written reply tx.pending; reads = tx.reads } in
      let ran = run s.program (start_of call) (docs_at s.seen tx.snapshot) in
      let docs : (x : IsPaused m h call ts machine tx (End reply told)) → docs_at h ts ≡ docs_at s.seen tx.snapshot =
      λ x. sym (docs_stay h s.seen ts on x.within) ∙ ap (docs_at s.seen) (sym x.snapshot) in
      let runs_same : (x : IsPaused m h call ts machine tx (End reply told)) → run m (start_of call) (docs_at h ts) ≡ ran =
      λ x. ap (λ (n : ModuleTree). run n (start_of call) (docs_at h ts)) same ∙ ap (run s.program (start_of call)) (docs x) in
      subst (IsRunOf s) (sym is) (record {
        snapshot = ∥∥₁_elim paused le_prop (λ (x : IsPaused m h call ts machine tx (End reply told)). subst (λ n. n ≤ length s.seen) (sym x.snapshot) (longer h s.seen ts on x.within));
        answer = record {
          same_reply = ∥∥₁_elim paused (Coded-set reply_code _ _) (λ (x : IsPaused m h call ts machine tx (End reply told)).
              end_reply m (start_of call) (docs_at h ts) tx.pending tx.reads reply x.pauses.0 x.pauses.1 ∙ ap (λ (r : Run). r.reply) (runs_same x));
          same_reads = ∥∥₁_elim paused (Coded-set (coded_list interval.the_row.coded) _ _) (λ (x : IsPaused m h call ts machine tx (End reply told)).
              end_reads m (start_of call) (docs_at h ts) tx.pending tx.reads reply x.pauses.0 x.pauses.1 ∙ ap (λ (r : Run). map in_bytes r.reads) (runs_same x));
          ends = ∥∥₁_elim paused (ends_prop ran.reads) (λ (x : IsPaused m h call ts machine tx (End reply told)).
              subst (λ (r : Run). EndsInRange r.reads) (runs_same x) (end_ends m (start_of call) (docs_at h ts) tx.pending tx.reads reply x.pauses.0 x.pauses.1));
        };
        writes = ∥∥₁_elim paused (Coded-set (coded_list write.the_row.coded) _ _) (λ (x : IsPaused m h call ts machine tx (End reply told)).
            end_writes m (start_of call) (docs_at h ts) tx.pending tx.reads reply x.pauses.0 x.pauses.1 ∙ ap (λ (r : Run). r.writes) (runs_same x));
      })

  -- behind a read the run pauses again, over what was then seen
  pub paused_again : (a : HeldAsk) (plan : ReadReq) (n : ModuleTree) (code : Code) (s : Standing) (k : History) (after : Machine) (read : Under) (next : Pause)
      → m ≡ s.program → n ≡ s.program → code ≡ code_of n → GoesOn h s.seen → GoesOn s.seen k → read.snapshot ≡ tx.snapshot
      → ((x : Start) (q : Ask) → HasDistinctIds (docs_at s.seen ts) → Stands a q → StandsFor plan (plan_of tx.pending q)
      → AtRead code s.program x (docs_at s.seen ts) machine tx q → Pauses code s.program x (docs_at s.seen ts) after read next)
      → ∥ IsPaused m h call ts machine tx (Read a plan) ∥₁ → ∥ IsPaused n k call ts after read next ∥₁
  paused_again a plan n code s k after read next same now coded on later snapshot goes paused = ∥∥₁_map paused (λ (x : IsPaused m h call ts machine tx (Read a plan)).
      let ds = docs_at s.seen ts in
      let stay : docs_at h ts ≡ ds = sym (docs_stay h s.seen ts on x.within) in
      let within : ts ≤ length s.seen = longer h s.seen ts on x.within in
      let distinct : HasDistinctIds ds = subst HasDistinctIds stay x.distinct in
      let p : Pauses code s.program (start_of call) ds machine tx (Read a plan) =
      moved (start_of call) machine tx (Read a plan) (code_of m) code m s.program (docs_at h ts) ds (ap code_of (same ∙ sym now) ∙ sym coded) same stay x.pauses in
      let q : Pauses code s.program (start_of call) ds after read next = goes (start_of call) p.0 distinct p.1 p.2 p.3 in
      let gone : IsPaused n k call ts after read next = record {
        snapshot = snapshot ∙ x.snapshot;
        within = longer s.seen k ts later within;
        distinct = subst HasDistinctIds (sym (docs_stay s.seen k ts later within)) distinct;
        pauses = moved (start_of call) after read next code (code_of n) s.program n ds (docs_at k ts) coded (sym now) (sym (docs_stay s.seen k ts later within)) q;
      } in gone)

-- ---- steps

-- what a job means in parts
pub under_same : (u : jobs.Under) (program : ModuleTree) (call : Call) (reads : ℕ) (seen : History) → u.program ≡ program → u.call ≡ call → u.reads ≡ reads → u.seen ≡ seen
    → u ≡ record u { program = program; call = call; reads = reads; seen = seen }
under_same u program call reads seen e f r s = λ i. record u { program = e i; call = f i; reads = r i; seen = s i }

pub step_reads : (s t : Standing) (call : Call) (u after : jobs.Under) (runs : ℕ) → nat_lt u.reads (reads_of s u) ≡ true → Reads s t → t.turns ≡ after_read s.turns
    → after ≡ record u { reads = u.reads + 1; seen = t.seen } → Steps s t call (Some u) (Some after) runs runs Moved
step_reads s t call u after runs fewer store turns is =
    let step : StepsRead s t u (Some after) runs runs Moved = record { store = store; turns = turns; under = ap Some is; counted = refl; told = refl } in
    subst (λ b. MatchBool b (StepsRead s t u (Some after) runs runs Moved) (StepsCommit s t u (Some after) runs runs Moved)) (sym fewer) step

pub step_commits : (s t : Standing) (call : Call) (u : jobs.Under) (runs : ℕ) (p : Proposal) (went : JobWent) → nat_lt u.reads (reads_of s u) ≡ false → IsRunOf s p
    → p.call ≡ u.call → p.snapshot ≡ u.snapshot → ((ended : Ended) × Commits s t p ended × (went ≡ ended_as p ended)) → t.turns ≡ after_commit s.turns
    → Steps s t call (Some u) None runs runs went
step_commits s t call u runs p went all is_run is_call is_snapshot (ended, store, told) turns =
    let step : StepsCommit s t u None runs runs went = record {
      proposal = p;
      ended = ended;
      is_run = is_run;
      call = is_call;
      snapshot = is_snapshot;
      store = store;
      turns = turns;
      under = refl;
      counted = refl;
      told = told;
    } in
    subst (λ b. MatchBool b (StepsRead s t u None runs runs went) (StepsCommit s t u None runs runs went)) (sym all) step

-- ---- steps for which there was no memory

-- of two turns, the one that was due
pub due_read : (s t : Standing) (u : jobs.Under) → nat_lt u.reads (reads_of s u) ≡ true → AtMostOneTurn after_read s.turns t.turns → AtMostDue s t (Some u)
due_read s t u fewer (inl e) = inl (e ∙ sym (rw (fewer, jobs.after_due)))
due_read s t u fewer (inr e) = inr e

pub due_commit : (s t : Standing) (u : jobs.Under) → nat_lt u.reads (reads_of s u) ≡ false → AtMostOneTurn after_commit s.turns t.turns → AtMostDue s t (Some u)
due_commit s t u all (inl e) = inl (e ∙ sym (rw (all, jobs.after_due)))
due_commit s t u all (inr e) = inr e
