-- Histories that go on, and their documents.
use Rattle.std.proofs.Common.{◌≡◌, ℕ, zero, suc, ◌≤◌, [], ◌∷◌, ◌++◌, length, take, drop, None, refl, sym, ap, ◌∙◌, subst, arith}
use Rattle.std.proofs.lemmas.List.{take-append-le, take-append-drop}
use Rattle.cv_store.specs.FirstTouch.{first_touch_places}
use Rattle.cv_store.specs.Kept.{kept}
use Rattle.cv_store.proofs.KeptLaws.{not_kept_is_new}
use Rattle.cv_store.proofs.TouchedPlaces.{none_is_untouched}
use Rattle.fn_tree.specs.History.{History, IsLegal, docs_after, docs_at, start_of, query_start}
use Rattle.fn_tree.specs.Run.{Run, run}
use Rattle.fn_tree.specs.Schemas.{schema_of}
use Rattle.fn_tree.specs.SyntaxTree.{ModuleTree}
use Rattle.fn_tree.specs.declared.entry.Call.{Call}
use Rattle.fn_tree.specs.declared.stop.Query.{Query}
use Rattle.fn_tree.specs.CommitLaws.{IsUntouched}
use Rattle.fn_tree.proofs.CommitsAreLegal.{commits_are_legal, answers_stay}
use Rattle.fn_tree.proofs.LegalHistories.{fronts_are_legal}
use Rattle.sync_session.specs.Showing.{run_at, reply_at}
use Rattle.sync_session.specs.Stepping.{entry_of}

-- what is seen later changes no document of a timestamp
pub docs_stay : (h more : History) (ts : ℕ) → ts ≤ length h → docs_at (h ++ more) ts ≡ docs_at h ts
docs_stay h more ts le = ap (λ (es : History). docs_after es []) (take-append-le ts h more le)

pub reply_stays : (m : ModuleTree) (h more : History) (q : Query) (ts : ℕ) → ts ≤ length h → reply_at m (h ++ more) q ts ≡ reply_at m h q ts
reply_stays m h more q ts le = ap (λ ds. (run m (query_start q.udf q.args) ds).reply) (docs_stay h more ts le)

-- a front of a legal history is legal
pub legal_take : (m : ModuleTree) (h : History) (n : ℕ) → IsLegal m h → IsLegal m (take n h)
legal_take m h n legal = fronts_are_legal m (take n h) (drop n h) (subst (IsLegal m) (sym (take-append-drop n h)) legal)

take_less : (a n : ℕ) (h : History) → a ≤ n → take a (take n h) ≡ take a h
take_less zero n h le = refl
take_less (suc a) zero h le = absurd (omega (arith, le))
take_less (suc a) (suc n) [] le = refl
take_less (suc a) (suc n) (e ∷ h) le = ap (λ (l : History). e ∷ l) (take_less a n h (omega (arith, le)))

-- an answer that nothing up to a position touches is the answer there
pub answer_stays : (m : ModuleTree) (h : History) (q : Query) (ts n : ℕ) → IsLegal m h → ts ≤ n
    → first_touch_places (schema_of m.tables) (run_at m h q ts).reads (take n h) ts ≡ None → reply_at m h q ts ≡ reply_at m h q n
answer_stays m h q ts n legal le none =
    let same : docs_at (take n h) ts ≡ docs_at h ts = ap (λ (es : History). docs_after es []) (take_less ts n h le) in
    let untouched : IsUntouched (schema_of m.tables) (run_at m h q ts).reads (take n h) ts = none_is_untouched (schema_of m.tables) (run_at m h q ts).reads (take n h) ts none in
    let stays = answers_stay m (take n h) ts q.udf q.args (legal_take m h n legal)
    (subst (λ ds. IsUntouched (schema_of m.tables) (run m (query_start q.udf q.args) ds).reads (take n h) ts) (sym same) untouched) in
    sym (ap (λ (r : Run). r.reply) stays ∙ ap (λ ds. (run m (query_start q.udf q.args) ds).reply) same)

-- a call without an entry, whose run on a snapshot nothing later touches, may be appended
pub commit_legal : (m : ModuleTree) (h : History) (call : Call) (ts : ℕ) → IsLegal m h → kept call.session call.request h ≡ None
    → first_touch_places (schema_of m.tables) (run m (start_of call) (docs_at h ts)).reads h ts ≡ None
    → IsLegal m (h ++ entry_of call (run m (start_of call) (docs_at h ts)) ∷ [])
commit_legal m h call ts legal new none =
    let r : Run = run m (start_of call) (docs_at h ts) in
    commits_are_legal m h ts (entry_of call r) legal (not_kept_is_new call.session call.request h new) (record { reply = refl; writes = refl })
    (none_is_untouched (schema_of m.tables) r.reads h ts none)
