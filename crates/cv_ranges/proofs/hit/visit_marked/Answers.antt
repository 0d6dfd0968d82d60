use Rattle.std.proofs.Common.{◌≡◌, ◌∙◌, ℕ, ◌+◌, ◌<◌, List, [], ◌∷◌, ◌++◌, length, take, get_or, refl, sym, ap, subst, append_assoc}
use Rattle.std.proofs.lemmas.List.{take_more, append-nil}
use Rattle.cv_reads.specs.declared.mark.Mark.{Mark}
use Rattle.range_tree.specs.Ranges.{Owned, owners_at}
use Rattle.cv_ranges.specs.Hits.{marked_owners}
use Rattle.cv_ranges.proofs.hit.visit_marked.Goals as goal

joined : (ms ns : List Mark) (tree : List Owned) → marked_owners (ms ++ ns) tree ≡ marked_owners ms tree ++ marked_owners ns tree
joined [] ns tree = refl
joined (m ∷ ms) ns tree =
    ap (λ os. owners_at m.table m.index m.key tree ++ os) (joined ms ns tree)
    ∙ sym (append_assoc (owners_at m.table m.index m.key tree) (marked_owners ms tree) (marked_owners ns tree))

one_more : (ms : List Mark) (k : ℕ) (m : Mark) (tree : List Owned) (seen : List ℕ) → k < length ms → m ≡ get_or ms k m
    → (seen ++ marked_owners (take k ms) tree) ++ owners_at m.table m.index m.key tree ≡ seen ++ marked_owners (take (k + 1) ms) tree
one_more ms k m tree seen less is =
    let more : take (k + 1) ms ≡ take k ms ++ m ∷ [] = take_more ms k m less ∙ ap (λ (n : Mark). take k ms ++ n ∷ []) (sym is) in
    let last : owners_at m.table m.index m.key tree ++ [] ≡ owners_at m.table m.index m.key tree = append-nil (owners_at m.table m.index m.key tree) in
    append_assoc seen (marked_owners (take k ms) tree) (owners_at m.table m.index m.key tree)
    ∙ ap (λ (os : List ℕ). seen ++ os)
    (ap (λ (os : List ℕ). marked_owners (take k ms) tree ++ os) (sym last)
    ∙ (sym (joined (take k ms) (m ∷ []) tree)
    ∙ ap (λ (ns : List Mark). marked_owners ns tree) (sym more)))

pub loop-mark-preserved : goal.loop-mark-preserved
loop-mark-preserved g c = λ seen had.
    subst (λ (os : List ℕ). g.V.Visit.has_seen os c.hit_all.new.visit)
    (one_more c.args.marks.now c.loop-mark.mark-index c.mark-item.result c.args.tree.now seen c.loop-mark-test.true c.mark-item.is)
    (c.hit_all.ensures _ (c.loop-mark.invariant seen had))
