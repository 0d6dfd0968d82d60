use Rattle.std.proofs.Common.{◌+◌, ◌≤◌, length, sym, ap, ◌∙◌, subst, arith}
use Rattle.std.specs.List.{AllByRecursion}
use Rattle.cv_core.specs.Cores.{state_of}
use Rattle.cv_core.specs.Versioned.{spare_at}
use Rattle.cv_core.proofs.RoomMade.{room_made}
use Rattle.cv_core.proofs.the_core.make_room.Goals as goal

pub returns-clause-ok : goal.returns-clause-ok
returns-clause-ok c =
    let ws = c.as_slice-writes.result.now in let docs = c.in_ok-docs.docs in
    room_made (state_of c.args.checked.now.tree c.reserve-2.new.self c.reserve.new.self) c.args.p.now
    (record { marks = c.in_ok-marks.marks; changes = c.in_ok-changes.changes; docs = docs }) c.schema-schema.result.now ws
    c.schema-schema.ensures.schema c.as_slice-writes.ensures
    (c.len-3.result + 1) c.len-2.result c.in-Some.each
    (omega (arith, c.len.ensures, c.if-len.false))
    (ap (λ n. n + 1) c.len-3.ensures.len ∙ ap (λ h. length h + 1) (sym c.reserve-2.ensures.entries))
    (c.len-2.ensures ∙ ap length (sym c.reserve.ensures.docs))
    c.in_ok-marks.ensures c.in_ok-changes.ensures.changes c.in_ok-docs.ensures c.in_ok-changes.ensures.fits
    c.in_ok-reserve-2.ensures.room
    (let same = ap length c.reserve.ensures.docs in omega (arith, same, c.len-4.ensures, c.len-5.ensures, c.if-len-2.false, docs.ok.0))
    (omega (arith, c.in_ok-reserve.ensures.versions, c.len-6.ensures, docs.ok.0))
    (omega (arith, c.in-Some.ensures.1))
    (subst (AllByRecursion (λ x. c.in-Some.each ≤ spare_at x.table x.index c.reserve.new.self.tables)) c.as_slice.ensures.value c.in_ok-reserve.ensures.room)
