use Rattle.std.proofs.Common.{◌+◌, length, ap, arith}
use Rattle.cv_core.specs.Cores.{state_of, schema_in}
use Rattle.cv_core.proofs.Committing.{may_of, room_allowed, room_core}
use Rattle.cv_core.proofs.the_core.Core.append.Goals as goal

pub add-requires-clause-numbers : goal.add-requires-clause-numbers
add-requires-clause-numbers c =
    let room = rw (← c.self.view_is) at c.requires.room in
    let count = ap length room.docs in
    omega (arith, room.numbers, count)

pub add-requires-clause-versions : goal.add-requires-clause-versions
add-requires-clause-versions c =
    let room = rw (← c.self.view_is) at c.requires.room in
    let count = ap length room.docs in
    omega (arith, room.versions, count)

pub add-requires-clause-room : goal.add-requires-clause-room
add-requires-clause-room c = let room = rw (← c.self.view_is) at c.requires.room in room.rows

pub add-requires-clause-allowed : goal.add-requires-clause-allowed
add-requires-clause-allowed c =
    let i = c.self.inside in
    let s = state_of i.checked.tree i.log i.rows in
    let room = rw (← c.self.view_is) at c.requires.room in
    let may = may_of s c.args.p c.args.room (rw (← c.self.view_is) at c.requires.run) (rw (← c.self.view_is) at c.requires.new) (rw (← c.self.view_is) at c.requires.untouched) room in
    room_allowed i.checked.tree i.log i.rows c.args.p c.args.room c.self.invariant may room (c.len-ts.result + 1) (ap (λ n. n + 1) c.len-ts.ensures.len)

pub append-requires-clause-room : goal.append-requires-clause-room
append-requires-clause-room c = let room = rw (← c.self.view_is) at c.requires.room in room.entry

pub append-requires-clause-marks : goal.append-requires-clause-marks
append-requires-clause-marks c =
    let i = c.self.inside in let room = rw (← c.self.view_is) at c.requires.room in (schema_in (state_of i.checked.tree i.log i.rows), room.marks)

pub append-requires-clause-new : goal.append-requires-clause-new
append-requires-clause-new c = rw (← c.self.view_is) at c.requires.new

pub invariant_of-self : goal.invariant_of-self
invariant_of-self c =
    let i = c.self.inside in
    let s = state_of i.checked.tree i.log i.rows in
    let room = rw (← c.self.view_is) at c.requires.room in
    let may = may_of s c.args.p c.args.room (rw (← c.self.view_is) at c.requires.run) (rw (← c.self.view_is) at c.requires.new) (rw (← c.self.view_is) at c.requires.untouched) room in
    room_core i.checked.tree i.log i.rows c.args.p c.args.room c.self.invariant may room (c.len-ts.result + 1) (ap (λ n. n + 1) c.len-ts.ensures.len)
    c.append.new.self c.add.new.self c.append.ensures.entries c.append.ensures.marks c.add.ensures.docs c.add.ensures.shape c.add.ensures.rows
