-- The store read that a run's read needs.
use Rattle.std.specs.Prelude.{ℕ, ◌+◌, ◌==◌, min, cond, List, [], ◌∷◌, Option, Some, None}
use Rattle.cv_values.specs.declared.doc.Doc.{Doc}
use Rattle.cv_keys.specs.declared.write.Write.{Write}
use Rattle.fn_tree.specs.Course.{Ask, get_doc, scan_rows}
use Rattle.fn_tree.specs.Scan.{read_rows, doc_size}
use Rattle.fn_tree.specs.declared.stop.Left.{Left}
use Rattle.cv_store.specs.Reads.{StoreRead, one_doc, first_rows}

-- the number of the first row that passes a quota of rows
abbrev pub quota_rows : Left → ℕ
quota_rows left = min (min (left.cost + 1) (left.rows + 1)) (read_rows + 1)

-- how many rows a read consumes at the most
abbrev pub most_rows : Option ℕ → Left → ℕ
most_rows None left = quota_rows left
most_rows (Some limit) left = min limit (quota_rows left)

abbrev pub rows_of : Option Doc → ℕ
rows_of None = 0
rows_of (Some d) = 1

abbrev pub size_of_rows : Option Doc → ℕ
size_of_rows None = 0
size_of_rows (Some d) = doc_size d

-- how many rows of a table the pending writes may take away
abbrev pub removed_rows : (table : ℕ) → List Write → ℕ
removed_rows table [] = 0
removed_rows table (w ∷ ws) = cond (w.id.table == table) (rows_of w.old) 0 + removed_rows table ws

-- and the size of those
abbrev pub removed_size : (table : ℕ) → List Write → ℕ
removed_size table [] = 0
removed_size table (w ∷ ws) = cond (w.id.table == table) (size_of_rows w.old) 0 + removed_size table ws

-- as many rows as the read and the pending removals can need
abbrev pub plan_of : List Write → Ask → StoreRead
plan_of ws (get_doc id left) = one_doc id
plan_of ws (scan_rows i desc limit left) =
    first_rows i desc (most_rows limit left + removed_rows i.table ws) (left.size + removed_size i.table ws)
