use Rattle.std.proofs.Common.{◌<◌, ◌≤◌, length, map, set, refl, arith}
use Rattle.std.specs.Prelude.{slice_get}
use Rattle.std.proofs.lemmas.Option.{slice_get_read}
use Rattle.cv_docs.specs.IndexRows.{rows_by}
use Rattle.cv_core.specs.Versioned.{spare_or}
use Rattle.cv_core.proofs.OneTable.{on_ok}
use Rattle.cv_core.proofs.SeenRows.{entries_stay, spare_grown, room_made}
use Rattle.cv_core.proofs.table_rows.TableRows.reserve.Goals as goal

pub returns-clause-entries : goal.returns-clause-entries
returns-clause-entries g c =
    let seen = rows_by g.R.RowIndex.entries g.R.RowIndex.spare in
    let rows = c.self.inside.indexes.items in
    let shown = c.args.self.now in
    let at = c.args.index in
    let old = c.index_mut.result.now in
    let within : at < length rows = omega (arith, c.if-at-len.false, c.len.ensures, c.self.inside.indexes.ok.0) in
    let there = slice_get_read rows (length rows) at old refl within c.index_mut.ensures.value in
    entries_stay seen rows shown c.self.view_is at old c.reserve.new.self there within c.reserve.ensures.entries

pub returns-clause-spare : goal.returns-clause-spare
returns-clause-spare g c =
    let seen = rows_by g.R.RowIndex.entries g.R.RowIndex.spare in
    let rows = c.self.inside.indexes.items in
    let shown = c.args.self.now in
    let at = c.args.index in
    let old = c.index_mut.result.now in
    let within : at < length rows = omega (arith, c.if-at-len.false, c.len.ensures, c.self.inside.indexes.ok.0) in
    let there = slice_get_read rows (length rows) at old refl within c.index_mut.ensures.value in
    spare_grown seen rows shown c.self.view_is at old c.reserve.new.self there within c.reserve.ensures.spare

pub returns-clause-room : goal.returns-clause-room
returns-clause-room g c =
    let seen = rows_by g.R.RowIndex.entries g.R.RowIndex.spare in
    let rows = c.self.inside.indexes.items in
    let shown = c.args.self.now in
    let at = c.args.index in
    let old = c.index_mut.result.now in
    let within : at < length rows = omega (arith, c.if-at-len.false, c.len.ensures, c.self.inside.indexes.ok.0) in
    let there = slice_get_read rows (length rows) at old refl within c.index_mut.ensures.value in
    on_ok (c.args.each ≤ g.R.RowIndex.spare c.reserve.new.self) (c.args.each ≤ spare_or (slice_get (map seen (set rows at c.reserve.new.self)) at)) c.reserve.result
    (room_made seen rows shown c.self.view_is at old c.reserve.new.self there within c.args.each) c.reserve.ensures.room
