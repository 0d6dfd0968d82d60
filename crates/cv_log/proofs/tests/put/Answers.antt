use Rattle.std.proofs.Common.{◌≡◌, ℕ, ◌+◌, List, [], ◌∷◌, ◌++◌, true, length, Some, None, sym, ap, ◌∙◌}
use Rattle.cv_values.specs.declared.doc.Doc.{Doc}
use Rattle.cv_values.specs.declared.ids.DocId.{DocId}
use Rattle.cv_keys.specs.Documents.{place, indexes_of}
use Rattle.cv_keys.specs.KeyBytes.{place_key}
use Rattle.cv_keys.specs.declared.schema.Index.{Index}
use Rattle.cv_keys.specs.declared.schema.Schema.{Schema}
use Rattle.cv_reads.specs.declared.mark.Mark.{Mark}
use Rattle.cv_store.specs.Marks.{index_marks, writes_marks}
use Rattle.cv_log.proofs.Appended.{kept_none}
use Rattle.cv_log.proofs.tests.put.Goals as goal

-- one table with this index
abbrev one_table : Index → Schema
one_table x = record { tables = record { name = x.name; indexes = x ∷ [] } ∷ [] }

one_mark : (x : Index) (d : Doc) (id : DocId) (ts at : ℕ) (key : List ℕ) (m : Mark) → id.table ≡ 0 → at ≡ ts → key ≡ place_key (place d x)
    → m ≡ record { ts = at; write = 0; fresh = true; table = 0; index = 0; key = key }
    → m ∷ [] ≡ writes_marks (one_table x) ts 0 (record { id = id; old = None; new = Some d } ∷ [])
one_mark x d id ts at key m table t k e =
    let same : m ≡ record { ts = ts; write = 0; fresh = true; table = 0; index = 0; key = place_key (place d x) } =
    e ∙ (λ i. record { ts = t i; write = 0; fresh = true; table = 0; index = 0; key = k i }) in
    ap (λ n. n ∷ []) same
    ∙ ap (λ (n : ℕ). index_marks ts 0 true n d 0 (indexes_of (one_table x) n) ++ []) (sym table)

pub append-requires-clause-new : goal.append-requires-clause-new
append-requires-clause-new c = kept_none c.in_ok-call.call.session c.in_ok-call.call.request c.reserve.new.self.entries (sym c.in-None.ensures)

pub append-requires-clause-marks : goal.append-requires-clause-marks
append-requires-clause-marks c =
    let x = c.in_ok-index.index in let ts = length c.reserve.new.self.entries + 1 in let m = c.mark.result in (
      one_table x,
      c.in_ok-push.ensures.items ∙ ap (λ l. l ++ m ∷ []) c.new-marks.ensures.items
          ∙ one_mark x c.in_ok-doc.doc c.id.result ts (c.len.result + 1) c.in_ok-index_key.field-0 m c.id.ensures (ap (λ (n : ℕ). n + 1) c.len.ensures.len) c.in_ok-index_key.ensures.key c.mark.ensures
          ∙ ap (writes_marks (one_table x) ts 0) (sym (c.in_ok-push-2.ensures.ok ∙ ap (λ ws. ws ++ record { id = c.id.result; old = None; new = Some c.in_ok-doc.doc } ∷ []) c.new-writes.ensures)),
    )
