-- What a call may take of the documents of its snapshot.
use Rattle.std.proofs.Common.{◌≡◌, ℕ, zero, suc, Bool, true, false, ◌||◌, cond, List, [], ◌∷◌, take, sym, ap, subst}
use Rattle.std.specs.Prelude.{IfSome, is_some}
use Rattle.std.proofs.lemmas.List.{take-append-le}
use Rattle.cv_keys.specs.declared.write.Write.{Write}
use Rattle.cv_run.specs.Snapshots.{IdsAreDistinct, NewCallsAreFresh, SnapshotsStay}
use Rattle.cv_store.proofs.KeptLaws.{not_kept_is_new}
use Rattle.cv_tx.proofs.Fronts.{distinct_with}
use Rattle.cv_tx.specs.Pending.{HasDistinctIds}
use Rattle.fn_tree.proofs.DocumentLemmas.{doc_of_id}
use Rattle.fn_tree.proofs.IdsOfHistories.{fresh_call, ids_have_pairs}
use Rattle.fn_tree.specs.Course.{Reply, gives, failed}
use Rattle.fn_tree.specs.Documents.{Docs, doc_of, with_doc, applied}
use Rattle.fn_tree.specs.History.{History, Pair, AreRuns, HasNoPair, start_of, docs_after, docs_at}
use Rattle.fn_tree.specs.Run.{with_puts, puts_to, writes_to, writes_of, run}
use Rattle.fn_tree.specs.SyntaxTree.{ModuleTree}
use Rattle.fn_tree.specs.declared.stop.Put.{Put}

-- ---- distinct ids

-- each new document has its write's id
abbrev AllOwn : List Write → Type 0
AllOwn [] = Unit {0}
AllOwn (w ∷ ws) = IfSome w.new (λ d. d.id ≡ w.id) × AllOwn ws

writes_own : (before after : Docs) (earlier ps : List Put) → AllOwn (writes_to before after earlier ps)
writes_own before after earlier [] = tt
writes_own before after earlier (p ∷ ps) =
    go (puts_to p.id earlier) (is_some (doc_of p.id before) || is_some (doc_of p.id after)) (writes_own before after (p ∷ earlier) ps)
  where
    go : (b c : Bool) → AllOwn (writes_to before after (p ∷ earlier) ps)
        → AllOwn (cond b (writes_to before after (p ∷ earlier) ps)
        (cond c (record { id = p.id; old = doc_of p.id before; new = doc_of p.id after } ∷ writes_to before after (p ∷ earlier) ps) (writes_to before after (p ∷ earlier) ps)))
    go true c rest = rest
    go false true rest = (doc_of_id p.id after, rest)
    go false false rest = rest

reply_own : (reply : Reply) (ds : Docs) (ps : List Put) → AllOwn (writes_of reply ds ps)
reply_own (gives v) ds ps = writes_own ds (with_puts ps ds) [] ps
reply_own (failed why) ds ps = tt

applied_distinct : (ws : List Write) (ds : Docs) → AllOwn ws → HasDistinctIds ds → HasDistinctIds (applied ws ds)
applied_distinct [] ds own h = h
applied_distinct (w ∷ ws) ds own h = applied_distinct ws (with_doc w.id w.new ds) own.1 (distinct_with w ds own.0 h)

distinct_after : (m : ModuleTree) (h : History) (ds : Docs) → HasDistinctIds ds → AreRuns m ds h → (ts : ℕ) → HasDistinctIds (docs_after (take ts h) ds)
distinct_after m h ds distinct runs zero = distinct
distinct_after m [] ds distinct runs (suc ts) = distinct
distinct_after m (e ∷ h) ds distinct runs (suc ts) =
    distinct_after m h (applied e.writes ds)
    (applied_distinct e.writes ds (subst AllOwn (sym runs.0.writes) (reply_own (run m (start_of e.call) ds).reply ds _)) distinct) runs.1 ts

pub ids_are_distinct : IdsAreDistinct
ids_are_distinct m h legal ts = distinct_after m h [] tt legal.runs ts

-- ---- fresh ids

no_pair : (pair : Pair) (h : History) (ts : ℕ) → HasNoPair pair h → HasNoPair pair (take ts h)
no_pair pair h zero none = tt
no_pair pair [] (suc ts) none = tt
no_pair pair (f ∷ h) (suc ts) none = (none.0, no_pair pair h ts none.1)

pub new_calls_are_fresh : NewCallsAreFresh
new_calls_are_fresh m h call legal none ts =
    fresh_call (take ts h) call (docs_at h ts) (ids_have_pairs m h legal ts) (no_pair (call.session, call.request) h ts (not_kept_is_new call.session call.request h none))

-- ---- later entries

pub snapshots_stay : SnapshotsStay
snapshots_stay h more ts le = ap (λ (es : History). docs_after es []) (take-append-le ts h more le)
