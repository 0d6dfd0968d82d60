-- Where no later entry touches what a run read, it may be appended, and an answer stays.
use Rattle.std.proofs.Common.{◌≡◌, ℕ, zero, suc, [], ◌∷◌, length, take, sym, ap, ◌∙◌, subst, arith}
use Rattle.std.proofs.lemmas.List.{take_all}
use Rattle.fn_tree.specs.CommitLaws.{CommitsAreLegal, AnswersStay, IsUntouched}
use Rattle.fn_tree.specs.Functions.{Start}
use Rattle.fn_tree.specs.History.{History, IsLegal, Pair, HasNoPair, start_of, query_start, docs_after, docs_at}
use Rattle.fn_tree.specs.PutLaws.{IsFresh}
use Rattle.fn_tree.specs.Run.{Run, run}
use Rattle.fn_tree.specs.Schemas.{schema_of}
use Rattle.fn_tree.specs.SyntaxTree.{ModuleTree}
use Rattle.fn_tree.specs.declared.entry.Call.{Call}
use Rattle.fn_tree.proofs.IdsOfHistories.{fresh_call, ids_have_pairs}
use Rattle.fn_tree.proofs.LegalHistories.{go_on_by_runs}
use Rattle.fn_tree.proofs.RunsAgree.{runs_agree}
use Rattle.fn_tree.proofs.UntouchedRows.{untouched_rows}

no_pair_take : (pair : Pair) (h : History) (ts : ℕ) → HasNoPair pair h → HasNoPair pair (take ts h)
no_pair_take pair h zero n = tt
no_pair_take pair [] (suc ts) n = tt
no_pair_take pair (e ∷ h) (suc ts) n = (n.0, no_pair_take pair h ts n.1)

module _ (m : ModuleTree) (h : History) (legal : IsLegal m h) where
  -- no document has an id of a call whose pair isn't there
  fresh_at : (call : Call) (ts : ℕ) → HasNoPair (call.session, call.request) h → IsFresh (start_of call).origin 0 (docs_at h ts)
  fresh_at call ts n = fresh_call (take ts h) call (docs_at h ts) (λ id d there. ids_have_pairs m h legal ts id d there) (no_pair_take (call.session, call.request) h ts n)

  fresh_end : (call : Call) → HasNoPair (call.session, call.request) h → IsFresh (start_of call).origin 0 (docs_after h [])
  fresh_end call n =
      subst (λ (l : History). IsFresh (start_of call).origin 0 (docs_after l [])) (take_all (length h) h (omega arith)) (fresh_at call (length h) n)

  -- the run on the older snapshot is the run at the end
  run_again : (s : Start) (ts : ℕ) → IsFresh s.origin 0 (docs_at h ts) → IsFresh s.origin 0 (docs_after h []) →
      IsUntouched (schema_of m.tables) (run m s (docs_at h ts)).reads h ts → run m s (docs_after h []) ≡ run m s (docs_at h ts)
  run_again s ts f g e =
      runs_agree m s (docs_at h ts) (docs_after h []) f g (untouched_rows m (schema_of m.tables) h ts (run m s (docs_at h ts)).reads legal.runs e)

pub commits_are_legal : CommitsAreLegal
commits_are_legal m h ts e legal n is untouched =
    let again = run_again m h legal (start_of e.call) ts (fresh_at m h legal e.call ts n) (fresh_end m h legal e.call n) untouched in
    go_on_by_runs m h e legal
    (record { reply = is.reply ∙ ap (λ (r : Run). r.reply) (sym again); writes = is.writes ∙ ap (λ (r : Run). r.writes) (sym again) }) n

pub answers_stay : AnswersStay
answers_stay m h ts udf args legal untouched = run_again m h legal (query_start udf args) ts tt tt untouched
