use Rattle.std.proofs.Common.{append_assoc}
use Rattle.fn_tree.proofs.FormViews.{form-Object, form-Group, form-Scan, form-Count, form-Get, form-Now, form-Insert, form-Delete, form-Patch, form-Replace, form-Field, form-Item, form-Unary, form-Binary}
use Rattle.fn_tree.proofs.printer.expressions.+print.Goals as goal

pub print_form-returns-in-Object : goal.print_form-returns-in-Object
print_form-returns-in-Object t c = rw (c.in-Object.is, form-Object c.in-Object.es) (simp append_assoc (simp (c.deref-in-Object.ensures.value, append_assoc) at c.print_entries.ensures))

pub print_form-returns-in_ok-print_expr-in-Group : goal.print_form-returns-in_ok-print_expr-in-Group
print_form-returns-in_ok-print_expr-in-Group t c = rw (c.in-Group.is, form-Group c.in-Group.e) (simp append_assoc (simp (c.in_ok-print_expr-in-Group.ensures, c.in_ok-put_mark-in-Group.ensures, append_assoc) at c.put_mark-in-Group.ensures))

pub print_form-returns-in_ok-put_order-in-Scan : goal.print_form-returns-in_ok-put_order-in-Scan
print_form-returns-in_ok-put_order-in-Scan t c = rw (c.in-Scan.is, form-Scan c.in-Scan.table c.in-Scan.index c.in-Scan.bounds c.in-Scan.desc c.in-Scan.take) (simp append_assoc (simp (c.in_ok-put_order-in-Scan.ensures, c.in_ok-print_bounds-in-Scan.ensures, c.in_ok-put_scan-in-Scan.ensures, c.deref-in-Scan.ensures.value, append_assoc) at c.print_limit.ensures))

pub print_form-returns-in-Count : goal.print_form-returns-in-Count
print_form-returns-in-Count t c = rw (c.in-Count.is, form-Count c.in-Count.table) (simp append_assoc (simp append_assoc at c.put_count.ensures))

pub print_form-returns-in_ok-print_expr-in-Get : goal.print_form-returns-in_ok-print_expr-in-Get
print_form-returns-in_ok-print_expr-in-Get t c = rw (c.in-Get.is, form-Get c.in-Get.e) (simp append_assoc (simp (c.in_ok-print_expr-in-Get.ensures, c.in_ok-put_open-in-Get.ensures, append_assoc) at c.put_mark-in-Get.ensures))

pub print_form-returns-in-Now : goal.print_form-returns-in-Now
print_form-returns-in-Now t c = rw (c.in-Now.is, form-Now) (simp append_assoc (simp append_assoc at c.put_now.ensures))

pub print_form-returns-in_ok-print_expr-in-Insert : goal.print_form-returns-in_ok-print_expr-in-Insert
print_form-returns-in_ok-print_expr-in-Insert t c = rw (c.in-Insert.is, form-Insert c.in-Insert.table c.in-Insert.e) (simp append_assoc (simp (c.in_ok-print_expr-in-Insert.ensures, c.in_ok-put_insert-in-Insert.ensures, append_assoc) at c.put_mark-in-Insert.ensures))

pub print_form-returns-in_ok-print_expr-in-Delete : goal.print_form-returns-in_ok-print_expr-in-Delete
print_form-returns-in_ok-print_expr-in-Delete t c = rw (c.in-Delete.is, form-Delete c.in-Delete.e) (simp append_assoc (simp (c.in_ok-print_expr-in-Delete.ensures, c.in_ok-put_open-in-Delete.ensures, append_assoc) at c.put_mark-in-Delete.ensures))

pub print_form-returns-in_ok-print_expr-in-Patch-2 : goal.print_form-returns-in_ok-print_expr-in-Patch-2
print_form-returns-in_ok-print_expr-in-Patch-2 t c = rw (c.in-Patch.is, form-Patch c.in-Patch.e c.in-Patch.o) (simp append_assoc (simp (c.in_ok-print_expr-in-Patch-2.ensures, c.in_ok-put_mark-in-Patch.ensures, c.in_ok-print_expr-in-Patch.ensures, c.in_ok-put_open-in-Patch.ensures, append_assoc) at c.put_mark-in-Patch-2.ensures))

pub print_form-returns-in_ok-print_expr-in-Replace-2 : goal.print_form-returns-in_ok-print_expr-in-Replace-2
print_form-returns-in_ok-print_expr-in-Replace-2 t c = rw (c.in-Replace.is, form-Replace c.in-Replace.e c.in-Replace.o) (simp append_assoc (simp (c.in_ok-print_expr-in-Replace-2.ensures, c.in_ok-put_mark-in-Replace.ensures, c.in_ok-print_expr-in-Replace.ensures, c.in_ok-put_open-in-Replace.ensures, append_assoc) at c.put_mark-in-Replace-2.ensures))

pub print_form-returns-in_ok-put_mark-in-Field : goal.print_form-returns-in_ok-put_mark-in-Field
print_form-returns-in_ok-put_mark-in-Field t c = rw (c.in-Field.is, form-Field c.in-Field.e c.in-Field.name) (simp append_assoc (simp (c.in_ok-put_mark-in-Field.ensures, c.in_ok-print_expr-in-Field.ensures, append_assoc) at c.put_name.ensures))

pub print_form-returns-in_ok-print_expr-in-Item-2 : goal.print_form-returns-in_ok-print_expr-in-Item-2
print_form-returns-in_ok-print_expr-in-Item-2 t c = rw (c.in-Item.is, form-Item c.in-Item.e c.in-Item.i) (simp append_assoc (simp (c.in_ok-print_expr-in-Item-2.ensures, c.in_ok-put_mark-in-Item.ensures, c.in_ok-print_expr-in-Item.ensures, append_assoc) at c.put_mark-in-Item-2.ensures))

pub print_form-returns-in_ok-put_mark-in-Unary : goal.print_form-returns-in_ok-put_mark-in-Unary
print_form-returns-in_ok-put_mark-in-Unary t c = rw (c.in-Unary.is, form-Unary c.in-Unary.op c.in-Unary.e) (simp (c.in_ok-put_mark-in-Unary.ensures, c.sign_mark.ensures, append_assoc) at c.print_expr-in-Unary.ensures)

pub print_form-returns-in_ok-put_mark-in-Binary : goal.print_form-returns-in_ok-put_mark-in-Binary
print_form-returns-in_ok-put_mark-in-Binary t c = rw (c.in-Binary.is, form-Binary c.in-Binary.op c.in-Binary.a c.in-Binary.b) (simp append_assoc (simp (c.in_ok-put_mark-in-Binary.ensures, c.in_ok-print_expr-in-Binary.ensures, c.operator_mark.ensures, append_assoc) at c.print_expr-in-Binary-2.ensures))
