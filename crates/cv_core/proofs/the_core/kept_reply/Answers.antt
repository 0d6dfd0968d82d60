use Rattle.std.proofs.Common.{Some, sym, ap, ◌∙◌}
use Rattle.fn_tree.specs.EntryViews.{entry_view, reply_view}
use Rattle.cv_core.proofs.KeptEntries.{kept_found, kept_there}
use Rattle.cv_core.proofs.the_core.kept_reply.Goals as goal

pub returns-in-None : goal.returns-in-None
returns-in-None c = absurd (kept_there c.args.session c.args.request c.in-Some.ts c.args.log.now.entries (sym c.in-Some.ensures) (sym c.in-None.ensures))

pub returns-in_ok-copy-in-Some-entry : goal.returns-in_ok-copy-in-Some-entry
returns-in_ok-copy-in-Some-entry c =
    let found = kept_found c.args.session c.args.request c.in-Some.ts c.args.log.now.entries (entry_view c.in-Some-entry.entry.now) (sym c.in-Some.ensures) (sym c.in-Some-entry.ensures) in
    ap (λ r. Some (c.in-Some.ts, reply_view r)) c.in_ok-copy-in-Some-entry.ensures ∙ sym found
