use Rattle.std.proofs.Common.{◌≡◌, [], ◌∷◌, ◌+◌, ℕ, List, map, length, sym, ap, ◌∙◌, subst}
use Rattle.std.specs.Prelude.{slice_get}
use Rattle.std.proofs.lemmas.List.{length-append}
use Rattle.cv_docs.specs.IndexRows.{rows_by}
use Rattle.cv_core.specs.Versioned.{entries_or}
use Rattle.cv_core.proofs.SeenRows.{empty_behind}
use Rattle.cv_core.proofs.table_rows.TableRows.new.Goals as goal

pub loop-index-preserved : goal.loop-index-preserved
loop-index-preserved g c =
    let seen = rows_by g.R.RowIndex.entries g.R.RowIndex.spare in
    let rows = c.loop-index.rows.items in
    let one_more = c.in_ok-push.ensures.items in
    record {
      count = ap length one_more ∙ length-append rows (c.new.result ∷ []) ∙ ap (λ (n : ℕ). n + 1) c.loop-index.invariant.count;
      empty = λ i. ap (λ (l : List g.row.R.Denot). entries_or (slice_get (map seen l) i)) one_more ∙ empty_behind seen rows c.new.result c.loop-index.invariant.empty c.new.ensures i;
    }
