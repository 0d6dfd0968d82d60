use Rattle.std.proofs.Common.{◌≡◌, ap, ◌∙◌}
use Rattle.std.specs.List.{insert}
use Rattle.std.specs.Ordering.{is_le}
use Rattle.cv_values.specs.Order.{text_cmp}
use Rattle.cv_docs.specs.Entries.{inserted, AllEarlier}
use Rattle.cv_docs.proofs.Newest.{stays_in_order}
use Rattle.cv_flat.specs.Parts.{passing}
use Rattle.cv_flat.proofs.Front.{insert-passing}
use Rattle.cv_flat.proofs.flat_rows.FlatRowsRowIndex.insert.Goals as goal

list_is : (c : goal.After-unwrap) → c.insert.new.self.items ≡ inserted (record { key = c.args.key; ts = c.args.ts; version = c.args.version }) c.self.inside.entries.items
list_is c =
    let es = c.self.inside.entries.items in
    let put : c.insert.new.self.items ≡ insert es c.first_above-at.result (record { key = c.args.key; ts = c.args.ts; version = c.args.version }) = rw c.unwrap.ensures at c.insert.ensures.items in
    let place : c.first_above-at.result ≡ passing (λ y. is_le (text_cmp y.key c.args.key)) es = c.first_above-at.ensures.place ∙ ap (passing (λ y. is_le (text_cmp y.key c.args.key))) c.as_slice.ensures.value in
    put ∙ ap (λ n. insert es n (record { key = c.args.key; ts = c.args.ts; version = c.args.version })) place ∙ insert-passing (record { key = c.args.key; ts = c.args.ts; version = c.args.version }) es

pub invariant_of-self : goal.invariant_of-self
invariant_of-self c =
    let earlier : AllEarlier c.args.key c.args.ts c.self.inside.entries.items = rw (← c.self.view_is) at c.requires.later in
    rw (list_is c) (stays_in_order (record { key = c.args.key; ts = c.args.ts; version = c.args.version }) c.self.inside.entries.items c.self.invariant earlier)

pub returns-clause-entries : goal.returns-clause-entries
returns-clause-entries c = rw (← c.self.view_is) (list_is c)
