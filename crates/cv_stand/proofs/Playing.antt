-- A call that is played over a store whose log is its own entries.
use Rattle.std.proofs.Common.{◌≡◌, ℕ, ◌+◌, ◌<◌, Bool, true, false, cond, List, [], ◌∷◌, ◌++◌, length, drop, Option, Some, None, refl, sym, ap, ◌∙◌, subst, arith, append-nil}
use Rattle.std.specs.Prelude.{nat_lt, MatchBool}
use Rattle.std.proofs.lemmas.Bool.{ltb-true}
use Rattle.std.proofs.lemmas.List.{take_all, length-append}
use Rattle.cv_core.specs.Cores.{program_of}
use Rattle.cv_core.specs.Solos.{Solo, stands_of}
use Rattle.fn_tree.specs.Course.{Reply}
use Rattle.fn_tree.specs.EntryViews.{reply_view}
use Rattle.fn_tree.specs.History.{Entry, History, docs_at, docs_after, start_of}
use Rattle.fn_tree.specs.Run.{Run, run}
use Rattle.fn_tree.specs.SyntaxTree.{ModuleTree}
use Rattle.fn_tree.specs.declared.entry.Call.{Call}
use Rattle.fn_tree.specs.declared.entry.Reply.{Reply as HeldReply}
use Rattle.cv_store.proofs.LongerHistories.{keys_go_on}
use Rattle.cv_store.specs.FirstTouch.{first_touch}
use Rattle.cv_store.specs.Jobs.{Under, Steps, StepsBegin, StepsRead, StepsCommit, reads_of as reads_under, begun_as, ended_as, runs_begun, under_of}
use Rattle.cv_store.specs.Kept.{kept}
use Rattle.cv_store.specs.Stores.{Extends, Reads, Begins, Commits, schema_in, entry_of}
use Rattle.cv_store.specs.Turns.{one_more}
use Rattle.cv_store.specs.declared.conflict.Conflict.{Conflict}
use Rattle.cv_store.specs.declared.job.JobWent.{JobWent}
use Rattle.cv_store.specs.declared.job.JobWent.TheVariants.{Moved, SentBack, Done}
use Rattle.cv_store.specs.declared.proposal.Begun.{Begun}
use Rattle.cv_store.specs.declared.proposal.Begun.TheVariants as begun
use Rattle.cv_store.specs.declared.proposal.Ended.{Ended}
use Rattle.cv_store.specs.declared.proposal.Ended.TheVariants as ended
use Rattle.cv_stand.specs.Events.{calls}
use Rattle.cv_stand.specs.Plays.{next_entry, request_of, runs_after}
use Rattle.cv_stand.specs.Underway.{reads_on_latest, IsAt, InCall, started, steps_left, IsPlayed, OneStepMore}
use Rattle.cv_stand.proofs.Entries.{pair_in, found_end, own_pair, after_known, after_new, counts_known, counts_new}

abbrev head_of : List ℕ → ℕ
head_of [] = 0
head_of (n ∷ ns) = n

-- the store keeps where its own entries begin
pub same_start : (s t : Solo) (own : History) → Extends (stands_of s) (stands_of t) own → t.start ≡ s.start
same_start s t own e = ap head_of e.name

-- where all entries are its own, what it appended is what came
pub log_grows : (s t : Solo) (own : History) → s.start ≡ 0 → Extends (stands_of s) (stands_of t) own → t.core.log ≡ s.core.log ++ own
log_grows s t own zero e =
    ap (λ (n : ℕ). drop n t.core.log) (sym (same_start s t own e ∙ zero)) ∙ e.mine ∙ ap (λ (n : ℕ). drop n s.core.log ++ own) zero

pub log_stays : (s t : Solo) → s.start ≡ 0 → Reads (stands_of s) (stands_of t) → t.core.log ≡ s.core.log
log_stays s t zero r = log_grows s t [] zero r.extends ∙ append-nil s.core.log

-- ---- what the steps tell

abbrev moment : JobWent → ℕ
moment Moved = 0
moment (SentBack c) = 1
moment (Done ts reply) = 2

unlike : (a b : JobWent) → a ≡ b → moment a < moment b → ⊥
unlike a b e h = let n : moment a ≡ moment b = ap moment e in omega (arith, n, h)

abbrev ts_in : JobWent → ℕ
ts_in (Done ts reply) = ts
ts_in went = 0

abbrev reply_in : HeldReply → JobWent → HeldReply
reply_in other (Done ts reply) = reply
reply_in other went = other

never_both : (x : ℕ × Reply) (o : Option (ℕ × Reply)) → o ≡ None → o ≡ Some x → ⊥
never_both x o e f = let never : ◌≡◌ {A = Option (ℕ × Reply)} None (Some x) = sym e ∙ f in cc

module _ (m : ModuleTree) (call : Call) (s t : Solo) where
  -- the run on the latest documents
  abbrev latest : Run
  latest = run m (start_of call) (docs_at s.core.log (length s.core.log))

  run_there : (program : ModuleTree) (c : Call) (snapshot : ℕ) → program ≡ m → c ≡ call → snapshot ≡ length s.core.log → run program (start_of c) (docs_at s.core.log snapshot) ≡ latest
  run_there program c snapshot p q r = λ i. run (p i) (start_of (q i)) (docs_at s.core.log (r i))

  -- ---- a begin

  begin_moves : (v : Option Under) (runs runs' : ℕ) → InCall m call s None → StepsBegin (stands_of s) (stands_of t) call v runs runs' Moved → OneStepMore m call s t None v
  begin_moves v runs runs' i b = go b.begun b.begins b.under b.told
    where
      log : t.core.log ≡ s.core.log
      log = log_stays s t i.start b.store

      program : program_of t.core ≡ m
      program = b.store.extends.program ∙ i.program

      go : (x : Begun) → Begins (stands_of t) call.session call.request x → v ≡ under_of (stands_of t) call x → Moved ≡ begun_as x → OneStepMore m call s t None v
      go (begun.Fresh ts) begins under told = record {
        log = log;
        in_call = record {
          program = program;
          start = same_start s t [] b.store.extends ∙ i.start;
          at = subst (IsAt m call t.core.log) (sym under) (record {
            program = program;
            same_call = refl;
            snapshot = begins.1;
            seen = refl;
            new = begins.0;
            within = omega arith;
          });
        };
        fewer = subst (λ (u : Option Under). steps_left m call t.core.log u < steps_left m call s.core.log None) (sym under)
            (let same = ap (reads_on_latest m call) log in omega (arith, same));
      }
      go (begun.Known ts reply) begins under told = absurd (unlike Moved (Done ts reply) told (omega arith))

  begin_done : (v : Option Under) (runs runs' ts : ℕ) (reply : HeldReply) → InCall m call s None → StepsBegin (stands_of s) (stands_of t) call v runs runs' (Done ts reply)
      → IsPlayed m call s t ts reply × (v ≡ None)
  begin_done v runs runs' ts reply i b = go b.begun b.begins b.under b.told
    where
      log : t.core.log ≡ s.core.log
      log = log_stays s t i.start b.store

      go : (x : Begun) → Begins (stands_of t) call.session call.request x → v ≡ under_of (stands_of t) call x → Done ts reply ≡ begun_as x → IsPlayed m call s t ts reply × (v ≡ None)
      go (begun.Fresh n) begins under told = absurd (unlike Moved (Done ts reply) (sym told) (omega arith))
      go (begun.Known n kept_reply) begins under told = (
        record {
          program = b.store.extends.program ∙ i.program;
          start = same_start s t [] b.store.extends ∙ i.start;
          history = log ∙ sym (after_known m s.core.log call (n, reply_view kept_reply) (ap (kept call.session call.request) (sym log) ∙ begins));
          told = begins ∙ ap (λ (w : JobWent). Some (ts_in w, reply_view (reply_in reply w))) (sym told);
        },
        under,
      )

  begin_sent : (v : Option Under) (runs runs' : ℕ) (touch : Conflict) → StepsBegin (stands_of s) (stands_of t) call v runs runs' (SentBack touch) → ⊥
  begin_sent v runs runs' touch b = go b.begun b.told
    where
      go : (x : Begun) → SentBack touch ≡ begun_as x → ⊥
      go (begun.Fresh n) told = unlike Moved (SentBack touch) (sym told) (omega arith)
      go (begun.Known n reply) told = unlike (SentBack touch) (Done n reply) told (omega arith)

  -- ---- a run under way

  module _ (u : Under) (v : Option Under) (runs runs' : ℕ) (i : InCall m call s (Some u)) where
    same_reads : reads_under (stands_of s) u ≡ reads_on_latest m call s.core.log
    same_reads = ap (λ (r : Run). length r.reads) (run_there (program_of s.core) u.call u.snapshot i.program i.at.same_call i.at.snapshot)

    read_moves : nat_lt u.reads (reads_under (stands_of s) u) ≡ true → StepsRead (stands_of s) (stands_of t) u v runs runs' Moved → OneStepMore m call s t (Some u) v
    read_moves more r = record {
      log = log;
      in_call = record {
        program = r.store.extends.program ∙ i.program;
        start = same_start s t [] r.store.extends ∙ i.start;
        at = subst (IsAt m call t.core.log) (sym r.under) (record {
          program = i.at.program;
          same_call = i.at.same_call;
          snapshot = i.at.snapshot ∙ ap length (sym log);
          seen = refl;
          new = ap (kept call.session call.request) log ∙ i.at.new;
          within = omega (arith, less, same);
        });
      };
      fewer = subst (λ (w : Option Under). steps_left m call t.core.log w < steps_left m call s.core.log (Some u)) (sym r.under) (omega (arith, less, same));
    }
      where
        log : t.core.log ≡ s.core.log
        log = log_stays s t i.start r.store

        same : reads_on_latest m call t.core.log ≡ reads_on_latest m call s.core.log
        same = ap (reads_on_latest m call) log

        less : u.reads < reads_on_latest m call s.core.log
        less = let d = same_reads in let l = ltb-true u.reads (reads_under (stands_of s) u) more in omega (arith, l, d)

    read_told : (went : JobWent) → StepsRead (stands_of s) (stands_of t) u v runs runs' went → moment went ≡ 0
    read_told went r = ap moment r.told

    module _ (went : JobWent) (c : StepsCommit (stands_of s) (stands_of t) u v runs runs' went) where
      same_call : c.proposal.call ≡ call
      same_call = c.call ∙ i.at.same_call

      commit_moves : moment went ≡ 0 → ⊥
      commit_moves none = go c.ended (ap moment c.told)
        where
          go : (e : Ended) → moment went ≡ moment (ended_as c.proposal e) → ⊥
          go (ended.Committed n) told = omega (arith, none, told)
          go (ended.Known n reply) told = omega (arith, none, told)
          go (ended.SentBack touch) told = omega (arith, none, told)

      -- nothing comes after the latest documents
      no_touch : (touch : Conflict) → Commits (stands_of s) (stands_of t) c.proposal (ended.SentBack touch) → ⊥
      no_touch touch (stays, is) =
          let log = log_stays s t i.start stays.reads in
          let end : c.proposal.snapshot ≡ length t.core.log = c.snapshot ∙ i.at.snapshot ∙ ap length (sym log) in
          let schema = schema_in (stands_of s) in
          let untouched : first_touch schema c.proposal.reads t.core.log c.proposal.snapshot ≡ None =
          ap (λ (n : ℕ). first_touch schema c.proposal.reads t.core.log n) end ∙ keys_go_on.end schema c.proposal.reads t.core.log in
          let none : ◌≡◌ {A = Option Conflict} None (Some touch) = sym untouched ∙ is in
          cc

      commit_sent : moment went ≡ 1 → ⊥
      commit_sent one = go c.ended c.store (ap moment c.told)
        where
          go : (e : Ended) → Commits (stands_of s) (stands_of t) c.proposal e → moment went ≡ moment (ended_as c.proposal e) → ⊥
          go (ended.Committed n) store told = omega (arith, one, told)
          go (ended.Known n reply) store told = omega (arith, one, told)
          go (ended.SentBack touch) store told = no_touch touch store

      made : entry_of c.proposal ≡ next_entry m s.core.log call
      made =
          let ran = run_there (program_of s.core) c.proposal.call c.proposal.snapshot i.program same_call (c.snapshot ∙ i.at.snapshot) in
          let whole : docs_at s.core.log (length s.core.log) ≡ docs_after s.core.log [] = ap (λ (h : History). docs_after h []) (take_all (length s.core.log) s.core.log (omega arith)) in
          let last : latest ≡ run m (start_of call) (docs_after s.core.log []) = ap (run m (start_of call)) whole in
          λ j. record { call = same_call j; reply = (c.is_run.answer.same_reply ∙ ap (λ (r : Run). r.reply) (ran ∙ last)) j; writes = (c.is_run.writes ∙ ap (λ (r : Run). r.writes) (ran ∙ last)) j }

      commit_done : (ts : ℕ) (reply : HeldReply) → went ≡ Done ts reply → IsPlayed m call s t ts reply
      commit_done ts reply is = go c.ended c.store (sym is ∙ c.told)
        where
          go : (e : Ended) → Commits (stands_of s) (stands_of t) c.proposal e → Done ts reply ≡ ended_as c.proposal e → IsPlayed m call s t ts reply
          go (ended.Committed n) (before, appends, last) told =
              let log = log_grows s t (entry_of c.proposal ∷ []) i.start appends.extends in
              let number : length s.core.log + 1 ≡ n = let grown = ap length log ∙ length-append s.core.log (entry_of c.proposal ∷ []) in omega (arith, grown, last) in
              record {
                program = appends.extends.program ∙ i.program;
                start = same_start s t (entry_of c.proposal ∷ []) appends.extends ∙ i.start;
                history = log ∙ ap (λ (e : Entry). s.core.log ++ e ∷ []) made ∙ sym (after_new m s.core.log call i.at.new);
                told = ap (kept call.session call.request) log ∙ found_end s.core.log (entry_of c.proposal) (pair_in call) i.at.new
                    ∙ ap (λ (b : Bool). cond b (Some (length s.core.log + 1, reply_view c.proposal.reply)) None) (own_pair call (entry_of c.proposal) same_call)
                    ∙ ap (λ (k : ℕ). Some (k, reply_view c.proposal.reply)) number
                    ∙ ap (λ (w : JobWent). Some (ts_in w, reply_view (reply_in reply w))) (sym told);
              }
          go (ended.Known n kept_reply) stays told =
              let log = log_stays s t i.start stays.reads in
              absurd (never_both (n, reply_view kept_reply) (kept call.session call.request t.core.log) (ap (kept call.session call.request) log ∙ i.at.new)
              (ap (λ (x : Call). kept x.session x.request t.core.log) (sym same_call) ∙ stays.same_reply))
          go (ended.SentBack touch) store told = absurd (unlike (SentBack touch) (Done ts reply) (sym told) (omega arith))

  -- ---- any step

  pub moves : (u v : Option Under) (runs runs' : ℕ) → InCall m call s u → Steps (stands_of s) (stands_of t) call u v runs runs' Moved → OneStepMore m call s t u v
  moves None v runs runs' i b = begin_moves v runs runs' i b
  moves (Some u) v runs runs' i b = go (nat_lt u.reads (reads_under (stands_of s) u)) refl b
    where
      go : (d : Bool) → nat_lt u.reads (reads_under (stands_of s) u) ≡ d → MatchBool d (StepsRead (stands_of s) (stands_of t) u v runs runs' Moved) (StepsCommit (stands_of s) (stands_of t) u v runs runs' Moved)
          → OneStepMore m call s t (Some u) v
      go true more r = read_moves u v runs runs' i more r
      go false e c = absurd (commit_moves u v runs runs' i Moved c refl)

  pub never_sent : (u v : Option Under) (runs runs' : ℕ) (touch : Conflict) → InCall m call s u → Steps (stands_of s) (stands_of t) call u v runs runs' (SentBack touch) → ⊥
  never_sent None v runs runs' touch i b = begin_sent v runs runs' touch b
  never_sent (Some u) v runs runs' touch i b = go (nat_lt u.reads (reads_under (stands_of s) u)) b
    where
      go : (d : Bool) → MatchBool d (StepsRead (stands_of s) (stands_of t) u v runs runs' (SentBack touch)) (StepsCommit (stands_of s) (stands_of t) u v runs runs' (SentBack touch)) → ⊥
      go true r = let n = read_told u v runs runs' i (SentBack touch) r in omega (arith, n)
      go false c = commit_sent u v runs runs' i (SentBack touch) c refl

  pub ends : (u v : Option Under) (runs runs' ts : ℕ) (reply : HeldReply) → InCall m call s u → Steps (stands_of s) (stands_of t) call u v runs runs' (Done ts reply)
      → IsPlayed m call s t ts reply × (v ≡ None)
  ends None v runs runs' ts reply i b = begin_done v runs runs' ts reply i b
  ends (Some u) v runs runs' ts reply i b = go (nat_lt u.reads (reads_under (stands_of s) u)) b
    where
      go : (d : Bool) → MatchBool d (StepsRead (stands_of s) (stands_of t) u v runs runs' (Done ts reply)) (StepsCommit (stands_of s) (stands_of t) u v runs runs' (Done ts reply))
          → IsPlayed m call s t ts reply × (v ≡ None)
      go true r = let n = read_told u v runs runs' i (Done ts reply) r in absurd (omega (arith, n))
      go false c = (commit_done u v runs runs' i (Done ts reply) c ts reply refl, c.under)

  -- ---- the runs that are started

  pub counts_moves : (u v : Option Under) (runs runs' first : ℕ) → InCall m call s u → Steps (stands_of s) (stands_of t) call u v runs runs' Moved → runs ≡ started u first → runs' ≡ started v first
  counts_moves None v runs runs' first i b before = go b.begun b.under b.counted b.told
    where
      go : (x : Begun) → v ≡ under_of (stands_of t) call x → runs' ≡ runs_begun x runs → Moved ≡ begun_as x → runs' ≡ started v first
      go (begun.Fresh ts) under counted told = counted ∙ ap one_more before ∙ ap (λ (w : Option Under). started w first) (sym under)
      go (begun.Known ts reply) under counted told = absurd (unlike Moved (Done ts reply) told (omega arith))
  counts_moves (Some u) v runs runs' first i b before = go (nat_lt u.reads (reads_under (stands_of s) u)) b
    where
      go : (d : Bool) → MatchBool d (StepsRead (stands_of s) (stands_of t) u v runs runs' Moved) (StepsCommit (stands_of s) (stands_of t) u v runs runs' Moved) → runs' ≡ started v first
      go true r = r.counted ∙ before ∙ ap (λ (w : Option Under). started w first) (sym r.under)
      go false c = absurd (commit_moves u v runs runs' i Moved c refl)

  pub counts_ends : (u v : Option Under) (runs runs' ts first : ℕ) (reply : HeldReply) → InCall m call s u → Steps (stands_of s) (stands_of t) call u v runs runs' (Done ts reply)
      → runs ≡ started u first → runs' ≡ runs_after s.core.log (calls (request_of call)) first
  counts_ends None v runs runs' ts first reply i b before = go b.begun b.begins b.counted b.told
    where
      log : t.core.log ≡ s.core.log
      log = log_stays s t i.start b.store

      go : (x : Begun) → Begins (stands_of t) call.session call.request x → runs' ≡ runs_begun x runs → Done ts reply ≡ begun_as x → runs' ≡ runs_after s.core.log (calls (request_of call)) first
      go (begun.Fresh n) begins counted told = absurd (unlike Moved (Done ts reply) (sym told) (omega arith))
      go (begun.Known n kept_reply) begins counted told =
          counted ∙ before ∙ sym (counts_known s.core.log call (n, reply_view kept_reply) first (ap (kept call.session call.request) (sym log) ∙ begins))
  counts_ends (Some u) v runs runs' ts first reply i b before = go (nat_lt u.reads (reads_under (stands_of s) u)) b
    where
      go : (d : Bool) → MatchBool d (StepsRead (stands_of s) (stands_of t) u v runs runs' (Done ts reply)) (StepsCommit (stands_of s) (stands_of t) u v runs runs' (Done ts reply))
          → runs' ≡ runs_after s.core.log (calls (request_of call)) first
      go true r = let n = read_told u v runs runs' i (Done ts reply) r in absurd (omega (arith, n))
      go false c = c.counted ∙ before ∙ sym (counts_new s.core.log call first i.at.new)
