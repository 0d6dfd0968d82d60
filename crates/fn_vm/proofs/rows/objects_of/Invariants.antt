use Rattle.std.proofs.Common.{◌≡◌, ◌++◌, map}
use Rattle.std.specs.Vec.Iter.{into_iter_items}
use Rattle.cv_values.specs.Docs.{doc_value}
use Rattle.fn_vm.proofs.rows.objects_of.Given as goal

abbrev pub invariant-loop-doc : goal.invariant-loop-doc
invariant-loop-doc l = l.objects ++ map doc_value (into_iter_items l.doc-iterator) ≡ map doc_value l.fn.docs.items
