use Rattle.std.proofs.Common.{◌≡◌, ◌+◌, ◌<◌, length, Some, ap, ◌∙◌, arith}
use Rattle.std.proofs.lemmas.List.{length_push}
use Rattle.cv_docs.proofs.Allowed.{earlier_from_before, later_allowed, stay_known}
use Rattle.cv_flat.proofs.tests.Stored.put.Goals as goal

pub insert-requires-clause-later : goal.insert-requires-clause-later
insert-requires-clause-later g c =
    rw c.in_ok-reserve-2.ensures.entries (earlier_from_before c.in_ok-key.key c.args.ts (g.I.RowIndex.entries c.args.self.now.rows) c.requires.before)

pub returns-clause-before : goal.returns-clause-before
returns-clause-before g c =
    let allowed = later_allowed (record { key = c.in_ok-key.key; ts = c.args.ts; version = Some c.push-version.result }) (g.I.RowIndex.entries c.args.self.now.rows) c.in_ok-key.key c.requires.before in
    rw (c.insert.ensures.entries, c.in_ok-reserve-2.ensures.entries) allowed.2

pub returns-clause-known : goal.returns-clause-known
returns-clause-known g c =
    let kept : length c.reserve.new.self.docs ≡ length c.args.self.now.docs.docs = ap length c.in_ok-reserve.ensures.docs in
    let more : length c.push-version.new.self.docs ≡ length c.reserve.new.self.docs + 1 = ap length c.push-version.ensures.docs ∙ length_push c.reserve.new.self.docs c.in_ok-doc.doc in
    let number : c.push-version.result < length c.push-version.new.self.docs = omega (arith, c.push-version.ensures.number) in
    let known = stay_known (record { key = c.in_ok-key.key; ts = c.args.ts; version = Some c.push-version.result }) (g.I.RowIndex.entries c.args.self.now.rows) (length c.args.self.now.docs.docs) (length c.push-version.new.self.docs) (omega arith) c.requires.known (number, tt) in
    rw (c.insert.ensures.entries, c.in_ok-reserve-2.ensures.entries) known
