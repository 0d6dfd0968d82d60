use Rattle.std.proofs.Common.{length, refl}
use Rattle.std.proofs.lemmas.Option.{slice_get_read}
use Rattle.cv_docs.specs.Entries.{inserted}
use Rattle.cv_docs.specs.IndexRows.{rows_by}
use Rattle.cv_core.proofs.SeenRows.{row_there, entries_set, spare_used}
use Rattle.cv_core.proofs.table_rows.TableRows.insert.Goals as goal

pub returns-clause-entries : goal.returns-clause-entries
returns-clause-entries g c =
    let seen = rows_by g.R.RowIndex.entries g.R.RowIndex.spare in
    let rows = c.self.inside.indexes.items in
    let shown = c.args.self.now in
    let at = c.args.index in
    let old = c.index_mut.result.now in
    let within = row_there seen rows shown c.self.view_is at c.requires.room in
    let there = slice_get_read rows (length rows) at old refl within c.index_mut.ensures.value in
    entries_set seen rows shown c.self.view_is at old c.insert.new.self there within
    (inserted (record { key = c.args.key; ts = c.args.ts; version = c.args.version })) c.insert.ensures.entries

pub returns-clause-spare : goal.returns-clause-spare
returns-clause-spare g c =
    let seen = rows_by g.R.RowIndex.entries g.R.RowIndex.spare in
    let rows = c.self.inside.indexes.items in
    let shown = c.args.self.now in
    let at = c.args.index in
    let old = c.index_mut.result.now in
    let within = row_there seen rows shown c.self.view_is at c.requires.room in
    let there = slice_get_read rows (length rows) at old refl within c.index_mut.ensures.value in
    spare_used seen rows shown c.self.view_is at old c.insert.new.self there within c.insert.ensures.spare
