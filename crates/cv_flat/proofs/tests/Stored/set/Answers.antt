use Rattle.std.proofs.Common.{◌≡◌, ◌≢◌, ◌+◌, ◌<◌, length, Some, None, List, ℕ, false, true≢false, nat_eq, sym, ap, ◌∙◌, arith}
use Rattle.std.specs.Cmp.Lexicographic.{pointwise, nat_list_eq_equiv}
use Rattle.std.proofs.lemmas.List.{length_push}
use Rattle.cv_docs.specs.Entries.{inserted}
use Rattle.cv_docs.proofs.Allowed.{earlier_from_before, later_allowed, before_inserted, stay_known}
use Rattle.cv_flat.proofs.tests.Stored.set.Goals as goal

different : (a b : List ℕ) → pointwise nat_eq a b ≡ false → a ≢ b
different a b e = λ s. true≢false (sym (nat_list_eq_equiv.refl b) ∙ ap (λ x. pointwise nat_eq x b) (sym s) ∙ e)

pub insert-requires-clause-later : goal.insert-requires-clause-later
insert-requires-clause-later g c =
    rw c.in_ok-reserve-2.ensures.entries (earlier_from_before c.in_ok-gone.gone c.args.ts (g.I.RowIndex.entries c.args.self.now.rows) c.requires.before)

pub insert-requires-2-clause-later : goal.insert-requires-2-clause-later
insert-requires-2-clause-later g c =
    let allowed = later_allowed (record { key = c.in_ok-gone.gone; ts = c.args.ts; version = None }) (g.I.RowIndex.entries c.args.self.now.rows) c.in_ok-key.key c.requires.before in
    rw (c.insert.ensures.entries, c.in_ok-reserve-2.ensures.entries) (allowed.1 (different c.in_ok-key.key c.in_ok-gone.gone (sym c.eq.ensures ∙ c.if-eq.false)))

pub returns-clause-before : goal.returns-clause-before
returns-clause-before g c =
    let es = g.I.RowIndex.entries c.args.self.now.rows in
    let allowed = later_allowed (record { key = c.in_ok-gone.gone; ts = c.args.ts; version = None }) es c.in_ok-key.key c.requires.before in
    rw (c.insert-2.ensures.entries, c.insert.ensures.entries, c.in_ok-reserve-2.ensures.entries)
    (before_inserted (c.args.ts + 1) (record { key = c.in_ok-key.key; ts = c.args.ts; version = Some c.push-version.result })
    (inserted (record { key = c.in_ok-gone.gone; ts = c.args.ts; version = None }) es) (omega arith) allowed.2)

pub returns-clause-known : goal.returns-clause-known
returns-clause-known g c =
    let es = g.I.RowIndex.entries c.args.self.now.rows in
    let n = length c.args.self.now.docs.docs in
    let kept : length c.reserve.new.self.docs ≡ length c.args.self.now.docs.docs = ap length c.in_ok-reserve.ensures.docs in
    let more : length c.push-version.new.self.docs ≡ length c.reserve.new.self.docs + 1 = ap length c.push-version.ensures.docs ∙ length_push c.reserve.new.self.docs c.in_ok-doc.doc in
    let number : c.push-version.result < length c.push-version.new.self.docs = omega (arith, c.push-version.ensures.number) in
    let first = stay_known (record { key = c.in_ok-gone.gone; ts = c.args.ts; version = None }) es n n (omega arith) c.requires.known (tt, tt) in
    let known = stay_known (record { key = c.in_ok-key.key; ts = c.args.ts; version = Some c.push-version.result }) (inserted (record { key = c.in_ok-gone.gone; ts = c.args.ts; version = None }) es)
    n (length c.push-version.new.self.docs) (omega arith) first (number, tt) in
    rw (c.insert-2.ensures.entries, c.insert.ensures.entries, c.in_ok-reserve-2.ensures.entries) known
