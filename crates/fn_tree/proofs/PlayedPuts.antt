-- The puts of a course that was followed to its end.
use Rattle.std.proofs.Common.{◌≡◌, List, [], ◌∷◌, ◌++◌, Option, refl, sym, subst}
use Rattle.cv_keys.specs.declared.schema.Schema.{Schema}
use Rattle.fn_tree.specs.Course.{Course, done, ask, put}
use Rattle.fn_tree.specs.Documents.{Docs, with_doc}
use Rattle.fn_tree.specs.PutLaws.{IsTrueOf, PutsAreTrue}
use Rattle.fn_tree.specs.Run.{with_puts, played}
use Rattle.fn_tree.specs.Scan.{answer}
use Rattle.fn_tree.specs.declared.stop.Put.{Put}
use Rattle.fn_tree.specs.declared.start.Origin.{Origin}

-- each put is true of the documents with the puts before it
abbrev pub AllTrue : Option Origin → Docs → List Put → Type 0
AllTrue origin ds [] = Unit {0}
AllTrue origin ds (p ∷ ps) = IsTrueOf origin ds p × AllTrue origin (with_doc p.id p.new ds) ps

with_puts-end : (ps : List Put) (p : Put) (ds : Docs) → with_puts (ps ++ p ∷ []) ds ≡ with_doc p.id p.new (with_puts ps ds)
with_puts-end [] p ds = refl
with_puts-end (q ∷ ps) p ds = with_puts-end ps p (with_doc q.id q.new ds)

all_true_end : (origin : Option Origin) (ps : List Put) (p : Put) (ds : Docs) → AllTrue origin ds ps → IsTrueOf origin (with_puts ps ds) p → AllTrue origin ds (ps ++ p ∷ [])
all_true_end origin [] p ds h k = (k, tt)
all_true_end origin (q ∷ ps) p ds h k = (h.0, all_true_end origin ps p (with_doc q.id q.new ds) h.1 k)

-- what a true course puts is true
pub played_true : (schema : Schema) (origin : Option Origin) (ds : Docs) (puts : List Put) (course : Course) →
    AllTrue origin ds puts → PutsAreTrue schema origin (with_puts puts ds) course → AllTrue origin ds (played schema ds puts course).puts
played_true schema origin ds puts (done o) h k = h
played_true schema origin ds puts (ask q next) h k = played_true schema origin ds puts (next (answer schema (with_puts puts ds) q).docs) h k
played_true schema origin ds puts (put p next) h k =
    played_true schema origin ds (puts ++ p ∷ []) next (all_true_end origin puts p ds h k.0)
    (subst (λ es. PutsAreTrue schema origin es next) (sym (with_puts-end puts p ds)) k.1)
