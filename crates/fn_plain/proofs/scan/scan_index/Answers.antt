use Rattle.std.proofs.Common.{◌≡◌, ◌-◌, ◌^◌, List, Some, length, min, take, sym, ap, ◌∙◌}
use Rattle.cv_values.specs.declared.doc.Doc.{Doc}
use Rattle.cv_keys.specs.Intervals.{in_bytes}
use Rattle.fn_tree.specs.Rows.{rows_in}
use Rattle.fn_tree.specs.Scan.{rows_size, consumed_after, in_direction}
use Rattle.fn_plain.specs.Scans.{part_of}
use Rattle.fn_plain.proofs.Consuming.{scan-is}
use Rattle.fn_plain.proofs.scan.scan_index.Goals as goal

pub returns : goal.returns
returns c p stands =
    let index = c.args.index.now in
    let rows = rows_in (Some index) p c.args.docs.now in
    let turned : c.as_slice.result.now ≡ in_direction c.args.desc rows =
    c.as_slice.ensures.value ∙ c.in_direction-rows.ensures ∙ ap (in_direction c.args.desc) (c.in_ok-rows_in.ensures p stands) in
    let same : consumed_after c.args.limit c.args.left.now 0 0 c.as_slice.result.now ≡ consumed_after c.args.limit c.args.left.now 0 0 (in_direction c.args.desc rows) =
    ap (consumed_after c.args.limit c.args.left.now 0 0) turned in
    let docs : c.truncate.new.self.items ≡ consumed_after c.args.limit c.args.left.now 0 0 (in_direction c.args.desc rows) =
    c.truncate.ensures.items ∙ ap (take c.in_ok-taken.taken.rows) (sym c.as_slice.ensures.value) ∙ c.in_ok-taken.ensures.front ∙ same in
    scan-is index p c.args.desc c.args.limit c.args.left.now rows _ c.in_ok-taken.taken.rows c.in_ok-taken.taken.size c.is_cut-cut.result c.requires.room
    (c.in_ok-taken.ensures.rows ∙ ap length same) (c.in_ok-taken.ensures.size ∙ ap (λ ds. min (rows_size ds) (2 ^ 64 - 1)) same) docs c.is_cut-cut.ensures
    (c.in_ok-consumed.ensures p stands ∙ ap (λ (ds : List Doc). in_bytes (part_of (Some index) p c.args.desc c.is_cut-cut.result ds)) (c.as_slice-2.ensures.value ∙ docs))
