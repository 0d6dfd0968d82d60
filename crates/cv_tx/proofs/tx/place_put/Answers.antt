use Rattle.std.proofs.Common.{sym, ap, ◌∙◌}
use Rattle.cv_tx.specs.Pending.{write_at}
use Rattle.cv_tx.proofs.Placed.{changes, adds}
use Rattle.cv_tx.proofs.tx.place_put.Goals as goal

pub set_new-requires : goal.set_new-requires
set_new-requires c = (changes c.args.p c.args.pending.now.items c.in-Some.at (c.in-Some.ensures ∙ ap (write_at c.args.p.id) c.as_slice.ensures.value)).below

pub returns-in-Some-clause-ok : goal.returns-in-Some-clause-ok
returns-in-Some-clause-ok c =
    let h = changes c.args.p c.args.pending.now.items c.in-Some.at (c.in-Some.ensures ∙ ap (write_at c.args.p.id) c.as_slice.ensures.value) in
    c.set_new.ensures h.w h.there ∙ sym h.changed

pub returns-in_ok-push-in-None-clause-ok : goal.returns-in_ok-push-in-None-clause-ok
returns-in_ok-push-in-None-clause-ok c =
    c.in_ok-push-in-None.ensures.items ∙ sym (adds c.args.p c.args.pending.now.items (c.in-None.ensures ∙ ap (write_at c.args.p.id) c.as_slice.ensures.value))
