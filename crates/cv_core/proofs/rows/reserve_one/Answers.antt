use Rattle.std.proofs.Common.{◌<◌, ◌≤◌, length, refl, arith}
use Rattle.std.proofs.lemmas.Option.{slice_get_read}
use Rattle.std.specs.Prelude.{slice_get}
use Rattle.cv_core.specs.Versioned.{entries_or, spare_or, spare_at}
use Rattle.cv_core.proofs.Nested.{same_shape}
use Rattle.cv_core.proofs.OneTable.{on_ok, stays_at, spare_grows, room_there}
use Rattle.cv_core.proofs.rows.reserve_one.Goals as goal

pub returns-clause-shape : goal.returns-clause-shape
returns-clause-shape c =
    let ts = c.args.tables.now.items in let at = c.args.table in let old = c.index_mut.result.now in
    let within : at < length ts = omega (arith, c.args.tables.now.ok.0) in
    same_shape ts at old c.reserve.new.self (slice_get_read ts (length ts) at old refl within c.index_mut.ensures.value) within c.reserve.ensures.count

pub returns-clause-rows : goal.returns-clause-rows
returns-clause-rows c = λ t i.
    let ts = c.args.tables.now.items in let at = c.args.table in let old = c.index_mut.result.now in
    let within : at < length ts = omega (arith, c.args.tables.now.ok.0) in
    stays_at ts at old c.reserve.new.self (slice_get_read ts (length ts) at old refl within c.index_mut.ensures.value) within entries_or i (c.reserve.ensures.entries i) t

pub returns-clause-spare : goal.returns-clause-spare
returns-clause-spare c = λ t i.
    let ts = c.args.tables.now.items in let at = c.args.table in let old = c.index_mut.result.now in
    let within : at < length ts = omega (arith, c.args.tables.now.ok.0) in
    spare_grows ts at old c.reserve.new.self (slice_get_read ts (length ts) at old refl within c.index_mut.ensures.value) within c.reserve.ensures.spare t i

pub returns-clause-room : goal.returns-clause-room
returns-clause-room c =
    let ts = c.args.tables.now.items in let at = c.args.table in let old = c.index_mut.result.now in
    let within : at < length ts = omega (arith, c.args.tables.now.ok.0) in
    let there = slice_get_read ts (length ts) at old refl within c.index_mut.ensures.value in
    on_ok (c.args.each ≤ spare_or (slice_get c.reserve.new.self c.args.index)) (c.args.each ≤ spare_at at c.args.index _) c.reserve.result
    (room_there ts at old c.reserve.new.self there within c.args.index c.args.each) c.reserve.ensures.room
