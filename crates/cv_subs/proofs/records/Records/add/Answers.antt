use Rattle.std.proofs.Common.{◌≡◌, ◌≢◌, ℕ, ◌<◌, ◌≤◌, List, Some, None, Option, true, length, take, drop, get_or, refl, sym, ap, ◌∙◌, subst, arith}
use Rattle.std.specs.Prelude.{◌↔◌, IsTrue, IsSome, option_map, option_and_then, insert}
use Rattle.cv_subs.specs.Views.{shown, all_shown, IsAt, IsPlace}
use Rattle.cv_subs.specs.Subs.{Sub, Subs, new_sub, sub_at, result_at, reads_of, with_sub, without_sub, changed, staled, answered, after_marks, IsRising}
use Rattle.cv_subs.specs.declared.record.Record.{Record}
use Rattle.cv_subs.proofs.Chosen.{refused}
use Rattle.cv_subs.proofs.Places.{sub_found, inserted_placed, length_shown}
use Rattle.cv_subs.proofs.Rising.{rising_with}
use Rattle.cv_subs.proofs.records.Records.add.Goals as goal

pub unreachable-requires : goal.unreachable-requires
unreachable-requires c =
    let items = c.self.inside.list.items in
    let a : IsAt c.args.id c.in_default.field-0 items = rw (c.from.ensures, c.as_slice.ensures.value) at c.in_default.ensures in
    let there = sub_found c.args.id a.found a.same items c.in_default.field-0 c.self.invariant.0 a.here in
    let new : sub_at c.args.id (all_shown items) ≡ None = rw c.self.view_is c.requires.new in
    absurd (cc)

pub unreachable-requires-in_default-insert : goal.unreachable-requires-in_default-insert
unreachable-requires-in_default-insert c =
    let list = c.self.inside.list in
    let n = length_shown list.items in
    let v : all_shown list.items ≡ c.args.self.now = c.self.view_is in
    let same = ap length v in
    refused c.insert.result c.in_default-insert.field-0 c.in_default-insert.is
    (c.insert.ensures.succeeds (omega (arith, n, same, list.ok.0, c.self.invariant.2, c.requires.room)))

placed : (id k : ℕ) (r : Record) (s : Sub) (items new : List Record) (l : Subs) → all_shown items ≡ l → IsRising (all_shown items) → IsPlace id k items → ◌≡◌ {A = ℕ × Sub} (shown r) (id, s) → new ≡ insert items k r
    → (all_shown new ≡ with_sub id s l) × IsRising (all_shown new)
placed id k r s items new l v rising p is put =
    let e : all_shown new ≡ with_sub id s (all_shown items) = ap all_shown put ∙ inserted_placed id s r is items k p.below p.above in
    (e ∙ ap (with_sub id s) v, subst IsRising (sym e) (rising_with id s (all_shown items) rising))

pub invariant_of-self : goal.invariant_of-self
invariant_of-self c =
    let list = c.self.inside.list in
    let v : all_shown list.items ≡ c.args.self.now = c.self.view_is in
    let p : IsPlace c.args.id c.in-Err.at list.items = rw (c.from.ensures, c.as_slice.ensures.value) at c.in-Err.ensures in
    let r : Record = record { id = c.args.id; query = c.args.query; result = None; reads = c.args.reads; stale = true } in
    let is : ◌≡◌ {A = ℕ × Sub} (shown r) (c.args.id, new_sub c.args.query) = λ i. (c.args.id, record { query = c.args.query; result = None; reads = c.requires.empty i; stale = true }) in
    let h = placed c.args.id c.in-Err.at r (new_sub c.args.query) list.items c.insert.new.self.items c.args.self.now v c.self.invariant.0 p is c.in-Ok.ensures.items in
    let n = length_shown list.items in
    let same = ap length v in
    (h.1, omega (arith, c.in-Ok.ensures.len, n, same, list.ok.0, c.requires.room), omega (arith, c.in-Ok.ensures.capacity, c.self.invariant.2))

pub returns : goal.returns
returns c =
    let list = c.self.inside.list in
    let v : all_shown list.items ≡ c.args.self.now = c.self.view_is in
    let p : IsPlace c.args.id c.in-Err.at list.items = rw (c.from.ensures, c.as_slice.ensures.value) at c.in-Err.ensures in
    let r : Record = record { id = c.args.id; query = c.args.query; result = None; reads = c.args.reads; stale = true } in
    let is : ◌≡◌ {A = ℕ × Sub} (shown r) (c.args.id, new_sub c.args.query) = λ i. (c.args.id, record { query = c.args.query; result = None; reads = c.requires.empty i; stale = true }) in
    (placed c.args.id c.in-Err.at r (new_sub c.args.query) list.items c.insert.new.self.items c.args.self.now v c.self.invariant.0 p is c.in-Ok.ensures.items).0
