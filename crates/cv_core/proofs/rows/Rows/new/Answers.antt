use Rattle.std.proofs.Common.{◌+◌, ◌++◌, length, map, drop, sym, ap, ◌∙◌, arith}
use Rattle.cv_keys.specs.declared.schema.Table.{Table}
use Rattle.cv_core.specs.Versioned.{entries_at, shape}
use Rattle.cv_core.proofs.Drops.{from_place}
use Rattle.cv_core.proofs.Empty.{push_table, push_shape}
use Rattle.cv_core.proofs.rows.Rows.new.Goals as goal

pub loop-table-preserved : goal.loop-table-preserved
loop-table-preserved c =
    let old = c.loop-table.tables.items in let t = c.in_ok-new.field-0 in
    let pushed = c.in_ok-push.ensures.items in
    let place = from_place c.as_slice-declared.result.now c.loop-table.table-index c.table-item.result (omega (arith, c.loop-table-test.true)) c.table-item.is in
    record {
      shapes =
          ap (λ ts. shape ts ++ map (λ (y : Table). length y.indexes) (drop (c.loop-table.table-index + 1) c.as_slice-declared.result.now)) pushed
          ∙ push_shape old t c.table-item.result (drop (c.loop-table.table-index + 1) c.as_slice-declared.result.now) (c.in_ok-new.ensures.count ∙ ap length c.as_slice.ensures)
          ∙ ap (λ l. shape old ++ map (λ (y : Table). length y.indexes) l) (sym place)
          ∙ c.loop-table.invariant.shapes;
      empty = λ table index. ap (entries_at table index) pushed ∙ push_table old t c.loop-table.invariant.empty c.in_ok-new.ensures.empty table index;
    }
