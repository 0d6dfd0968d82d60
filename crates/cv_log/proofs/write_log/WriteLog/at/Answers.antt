use Rattle.std.proofs.Common.{◌≡◌, suc, List, sym, ap, ◌∙◌, subst, arith}
use Rattle.fn_tree.specs.EntryViews.{entry_view}
use Rattle.cv_log.specs.Logs.{entries_in, marks_in, entry_at}
use Rattle.cv_log.specs.declared.touch.Marked.{Marked}
use Rattle.cv_log.proofs.Marked.{looked_up}
use Rattle.cv_log.proofs.write_log.WriteLog.at.Goals as goal

pub returns-clause-entry : goal.returns-clause-entry
returns-clause-entry c =
    let n : suc c.in_ok-at.at ≡ c.args.ts = omega (arith, c.in_ok-at.ensures) in
    looked_up (λ m. entry_view m.entry) c.deref.result.now c.in_ok-at.at c.get.result c.get.ensures.lookup.3 c.get.ensures.lookup.1
    ∙ ap (λ k. entry_at k (entries_in c.deref.result.now)) n
    ∙ ap (λ ms. entry_at c.args.ts (entries_in ms)) c.deref.ensures.value ∙ ap (λ l. entry_at c.args.ts l.entries) c.self.view_is

pub returns-clause-marks : goal.returns-clause-marks
returns-clause-marks c =
    let n : suc c.in_ok-at.at ≡ c.args.ts = omega (arith, c.in_ok-at.ensures) in
    looked_up (λ m. m.marks.items) c.deref.result.now c.in_ok-at.at c.get.result c.get.ensures.lookup.3 c.get.ensures.lookup.1
    ∙ ap (λ k. entry_at k (marks_in c.deref.result.now)) n
    ∙ ap (λ ms. entry_at c.args.ts (marks_in ms)) c.deref.ensures.value ∙ ap (λ l. entry_at c.args.ts l.marks) c.self.view_is
