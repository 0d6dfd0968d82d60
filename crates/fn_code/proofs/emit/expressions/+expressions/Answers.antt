use Rattle.std.proofs.Common.{◌∙◌, sym, append_assoc}
use Rattle.std.proofs.lemmas.Result.{on_ok_weaker}
use Rattle.fn_tree.proofs.FormViews.{form-Object, form-Scan, form-Get, form-Insert, form-Delete, form-Patch, form-Replace, form-Field, form-Item, form-Unary, form-Binary}
use Rattle.fn_code.proofs.Emitted.{either_there, operator_there}
use Rattle.fn_code.proofs.emit.expressions.+expressions.Goals as goal

pub emit_form-returns-in_ok-names_of-in-Object : goal.emit_form-returns-in_ok-names_of-in-Object
emit_form-returns-in_ok-names_of-in-Object t c = rw (c.in-Object.is, form-Object c.in-Object.entries) (simp (c.in_ok-names_of-in-Object.ensures, c.in_ok-emit_entries-in-Object.ensures, c.deref-in-Object.ensures.value, c.deref-in-Object-2.ensures.value, append_assoc) at c.put-in-Object.ensures)

pub emit_form-returns-in_ok-ops-in-Scan : goal.emit_form-returns-in_ok-ops-in-Scan
emit_form-returns-in_ok-ops-in-Scan t c = rw (c.in-Scan.is, form-Scan c.in-Scan.table c.in-Scan.index c.in-Scan.bounds c.in-Scan.desc c.in-Scan.take) (simp (c.scan_of.ensures, c.index-numbers.ensures, c.is_limited.ensures, c.as_slice.ensures, c.in_ok-ops-in-Scan.ensures, c.in_ok-emit_limit-in-Scan.ensures, c.in_ok-emit_bounds-in-Scan.ensures, c.deref-in-Scan.ensures.value, c.deref-in-Scan-2.ensures.value, append_assoc) at c.put-in-Scan.ensures)

pub emit_form-returns-in_ok-emit_expr-in-Get : goal.emit_form-returns-in_ok-emit_expr-in-Get
emit_form-returns-in_ok-emit_expr-in-Get t c = rw (c.in-Get.is, form-Get c.in-Get.e) (simp (c.in_ok-emit_expr-in-Get.ensures, append_assoc) at c.put-in-Get.ensures)

pub emit_form-returns-in_ok-emit_expr-in-Insert : goal.emit_form-returns-in_ok-emit_expr-in-Insert
emit_form-returns-in_ok-emit_expr-in-Insert t c = rw (c.in-Insert.is, form-Insert c.in-Insert.table c.in-Insert.e) (simp (c.insert_of.ensures, c.table.ensures, c.in_ok-emit_expr-in-Insert.ensures, append_assoc) at c.put-in-Insert.ensures)

pub emit_form-returns-in_ok-emit_expr-in-Delete : goal.emit_form-returns-in_ok-emit_expr-in-Delete
emit_form-returns-in_ok-emit_expr-in-Delete t c = rw (c.in-Delete.is, form-Delete c.in-Delete.e) (simp (c.in_ok-emit_expr-in-Delete.ensures, append_assoc) at c.put-in-Delete.ensures)

pub emit_form-returns-in_ok-emit_expr-in-Patch-2 : goal.emit_form-returns-in_ok-emit_expr-in-Patch-2
emit_form-returns-in_ok-emit_expr-in-Patch-2 t c = rw (c.in-Patch.is, form-Patch c.in-Patch.e c.in-Patch.o) (simp (c.in_ok-emit_expr-in-Patch-2.ensures, c.in_ok-emit_expr-in-Patch.ensures, append_assoc) at c.put-in-Patch.ensures)

pub emit_form-returns-in_ok-emit_expr-in-Replace-2 : goal.emit_form-returns-in_ok-emit_expr-in-Replace-2
emit_form-returns-in_ok-emit_expr-in-Replace-2 t c = rw (c.in-Replace.is, form-Replace c.in-Replace.e c.in-Replace.o) (simp (c.in_ok-emit_expr-in-Replace-2.ensures, c.in_ok-emit_expr-in-Replace.ensures, append_assoc) at c.put-in-Replace.ensures)

pub emit_form-returns-in_ok-copy-in-Field : goal.emit_form-returns-in_ok-copy-in-Field
emit_form-returns-in_ok-copy-in-Field t c = rw (c.in-Field.is, form-Field c.in-Field.e c.in-Field.name) (simp (c.in_ok-copy-in-Field.ensures, c.in_ok-source-in-Field.ensures.source, c.in_ok-source-in-Field.ensures.code, append_assoc) at c.put-in-Field.ensures)

pub emit_form-returns-in_ok-place-in-Item : goal.emit_form-returns-in_ok-place-in-Item
emit_form-returns-in_ok-place-in-Item t c = rw (c.in-Item.is, form-Item c.in-Item.e c.in-Item.i) (simp (c.in_ok-place-in-Item.ensures.source, c.in_ok-source-in-Item.ensures.source, c.in_ok-place-in-Item.ensures.code, c.in_ok-source-in-Item.ensures.code, append_assoc) at c.put-in-Item.ensures)

pub emit_form-returns-in_ok-source-in-Unary : goal.emit_form-returns-in_ok-source-in-Unary
emit_form-returns-in_ok-source-in-Unary t c = rw (c.in-Unary.is, form-Unary c.in-Unary.op c.in-Unary.e) (simp (c.in_ok-source-in-Unary.ensures.source, c.in_ok-source-in-Unary.ensures.code, append_assoc) at c.put-in-Unary.ensures)

pub emit_form-returns-in_ok-emit_expr-in-Some-2 : goal.emit_form-returns-in_ok-emit_expr-in-Some-2
emit_form-returns-in_ok-emit_expr-in-Some-2 t c = rw (c.in-Binary.is, form-Binary c.in-Binary.op c.in-Binary.a c.in-Binary.b) (on_ok_weaker c.end_either.result (λ filled. either_there _ _ _ _ _ _ _ c.in-Some.decides c.in_ok-at-in-Some.at c.in-Binary.op _ _ c.in_ok-emit_expr-in-Some.ensures c.in_ok-at-in-Some.ensures.code c.in_ok-emit_expr-in-Some-2.ensures c.in_ok-at-in-Some.ensures.place filled (sym c.in-Some.is ∙ c.decided_by.ensures)) c.end_either.ensures)

pub emit_form-returns-in_ok-right-in-None : goal.emit_form-returns-in_ok-right-in-None
emit_form-returns-in_ok-right-in-None t c = rw (c.in-Binary.is, form-Binary c.in-Binary.op c.in-Binary.a c.in-Binary.b) (on_ok_weaker c.put-in-None.result (λ put. operator_there _ _ _ _ _ _ c.in-Binary.op _ _ c.in_ok-left-in-None.left c.in_ok-right-in-None.right c.in_ok-left-in-None.ensures.code c.in_ok-right-in-None.ensures.code put c.in_ok-left-in-None.ensures.source c.in_ok-right-in-None.ensures.source (sym c.in-None.is ∙ c.decided_by.ensures)) c.put-in-None.ensures)
