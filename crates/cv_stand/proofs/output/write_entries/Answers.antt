use Rattle.std.proofs.Common.{◌≡◌, ◌+◌, ◌∷◌, [], drop, ap, arith}
use Rattle.std.proofs.lemmas.List.{drop_all}
use Rattle.fn_tree.specs.EntryViews.{entry_view}
use Rattle.fn_tree.specs.History.{History}
use Rattle.cv_stand.specs.EntryLines.{entry_lines}
use Rattle.cv_stand.specs.Texts.{with_feeds}
use Rattle.cv_stand.proofs.Outcomes.{error_is}
use Rattle.cv_stand.proofs.Texts.{next_entry, entries_split}
use Rattle.cv_stand.proofs.Writing.{writing_none, writing_more, writing_cut, writing_stopped, writing_all}
use Rattle.cv_stand.proofs.output.write_entries.Goals as goal

pub loop-i-init : goal.loop-i-init
loop-i-init g c = writing_none _ (g.K.Sink.held c.args.out.now) (g.K.Sink.faults c.args.out.now)

pub loop-i-preserved : goal.loop-i-preserved
loop-i-preserved g c =
    let h = c.args.core.now.log in
    let i = c.loop-i.i in
    let e = entry_view c.in-Some.entry.now in
    let next : drop i h ≡ e ∷ drop (i + 1) h = next_entry h i e c.in-Some.ensures.entry in
    let line = rw c.in_ok-line.ensures at c.in_ok-write_line.ensures in
    writing_more (with_feeds (entry_lines (i + 1) (drop (i + 1) h))) (entries_split h (drop (i + 1) h) i e next) c.loop-i.invariant line

pub returns-in_err-line : goal.returns-in_err-line
returns-in_err-line g c =
    writing_stopped c.from_residual.result c.loop-i.invariant (error_is c.from_residual.result _ c.from_residual.ensures.0 c.from_residual.ensures.1)

pub returns-in_err-write_line : goal.returns-in_err-write_line
returns-in_err-write_line g c =
    let h = c.args.core.now.log in
    let i = c.loop-i.i in
    let e = entry_view c.in-Some.entry.now in
    let next : drop i h ≡ e ∷ drop (i + 1) h = next_entry h i e c.in-Some.ensures.entry in
    let line = rw c.in_ok-line.ensures at c.in_err-write_line.ensures in
    let r = c.from_residual-in_err-write_line in
    writing_cut r.result (with_feeds (entry_lines (i + 1) (drop (i + 1) h))) (entries_split h (drop (i + 1) h) i e next) c.loop-i.invariant line
    (error_is r.result _ r.ensures.0 r.ensures.1)

pub returns : goal.returns
returns g c =
    let h = c.args.core.now.log in
    let none : drop c.loop-i.i h ≡ [] = drop_all c.loop-i.i h (omega (arith, c.loop-i-test.false, c.len-i-end.ensures.len)) in
    writing_all _ (ap (λ (x : History). with_feeds (entry_lines c.loop-i.i x)) none) c.loop-i.invariant
