use Rattle.std.proofs.Common.{length, refl, arith}
use Rattle.std.proofs.lemmas.Option.{slice_get_read}
use Rattle.cv_core.proofs.Nested.{same_shape, table_from_spare}
use Rattle.cv_core.proofs.rows.insert_one.Goals as goal

pub index_mut-requires : goal.index_mut-requires
index_mut-requires c =
    let inside = table_from_spare c.args.tables.now.items c.args.change.table c.args.change.index c.requires.room in
    omega (arith, inside, c.args.tables.now.ok.0)

pub returns-clause-shape : goal.returns-clause-shape
returns-clause-shape c =
    let ts = c.args.tables.now.items in let at = c.args.change.table in let old = c.index_mut.result.now in
    let within = table_from_spare ts at c.args.change.index c.requires.room in
    same_shape ts at old c.insert.new.self (slice_get_read ts (length ts) at old refl within c.index_mut.ensures.value) within c.insert.ensures.count
