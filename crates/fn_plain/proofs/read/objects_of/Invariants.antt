use Rattle.std.proofs.Common.{◌≡◌, ◌++◌, map, drop}
use Rattle.cv_values.specs.Docs.{doc_value}
use Rattle.fn_plain.proofs.read.objects_of.Given as goal

abbrev pub invariant-loop-doc : goal.invariant-loop-doc
invariant-loop-doc l = l.objects ++ map doc_value (drop l.doc-index l.docs) ≡ map doc_value l.docs
