use Rattle.std.proofs.Common.{◌≡◌, ◌+◌, ◌∷◌, ◌++◌, [], length, None, Some, nat_eq, ◌&&◌, cond, sym, ap, ◌∙◌, arith}
use Rattle.fn_tree.specs.EntryViews.{entry_view}
use Rattle.cv_store.specs.Kept.{kept}
use Rattle.cv_log.specs.Logs.{entries_in, timestamp_of}
use Rattle.cv_log.proofs.Appended.{timestamp_end, entries_end, length_entries}
use Rattle.cv_log.proofs.write_log.WriteLog.append.Goals as goal

pub invariant_of-self : goal.invariant_of-self
invariant_of-self c = λ session request.
    let ms = c.self.inside.marked.items in
    let none : kept c.args.e.call.session c.args.e.call.request (entries_in ms) ≡ None = rw (← c.self.view_is) at c.requires.new in
    let items = rw c.unwrap-2.ensures at c.push.ensures.items in
    let set = rw c.unwrap.ensures at c.insert-placed.ensures.updates in
    let count : c.len.result + 1 ≡ length (entries_in ms) + 1 = omega (arith, c.len.ensures, length_entries ms, c.self.inside.marked.ok.0) in
    set.0 (session, request)
    ∙ ap (cond (nat_eq c.args.e.call.session session && nat_eq c.args.e.call.request request) (Some (c.len.result + 1))) (c.self.invariant session request)
    ∙ sym (timestamp_end session request (c.len.result + 1) (entries_in ms) (entry_view c.args.e) count none)
    ∙ ap (timestamp_of session request) (sym (entries_end ms (record { entry = c.args.e; marks = c.args.marks })))
    ∙ ap (λ xs. timestamp_of session request (entries_in xs)) (sym items)
