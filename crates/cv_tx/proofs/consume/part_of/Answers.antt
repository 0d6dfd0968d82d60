use Rattle.std.proofs.Common.{◌≡◌, ◌-◌, Bool, true, false, List, [], ◌∷◌, length, get_or, Some, ap, ◌∙◌, subst, arith}
use Rattle.std.specs.Prelude.{IfOk, nat_lt}
use Rattle.cv_values.specs.declared.doc.Doc.{Doc}
use Rattle.cv_keys.specs.Places.{PlaceInterval}
use Rattle.cv_keys.specs.declared.schema.Index.{Index}
use Rattle.fn_tree.specs.Scan.{last_of}
use Rattle.cv_tx.specs.Asks.{IsBytesOf, part_of}
use Rattle.cv_tx.proofs.consume.part_of.Goals as goal

last-is : (d : Doc) (es : List Doc) (row other : Doc) → row ≡ get_or (d ∷ es) (length es) other → row ≡ last_of d es
last-is d [] row other h = h
last-is d (e ∷ es) row other h = last-is e es row other h

-- the rows tell of what the last of them does
part-last : (index : Index) (p : PlaceInterval) (desc cut : Bool) (ds : List Doc) (row : Doc) → cut ≡ true → true ≡ nat_lt 0 (length ds) → row ≡ get_or ds (length ds - 1) row
    → part_of (Some index) p desc true (row ∷ []) ≡ part_of (Some index) p desc cut ds
part-last index p desc false ds row e f h = cc
part-last index p desc true [] row e f h = cc
part-last index p true true (d ∷ es) row e f h =
    ap (λ x. part_of (Some index) p true true (x ∷ [])) (last-is d es row row (h ∙ ap (λ n. get_or (d ∷ es) n row) (omega arith)))
part-last index p false true (d ∷ es) row e f h =
    ap (λ x. part_of (Some index) p false true (x ∷ [])) (last-is d es row row (h ∙ ap (λ n. get_or (d ∷ es) n row) (omega arith)))

pub returns-in-Some : goal.returns-in-Some
returns-in-Some c p stands =
    let row = c.in-Some.row.now in
    subst (λ q. IfOk c.up_to.result (λ part. IsBytesOf q part))
    (part-last c.args.index.now p c.args.desc c.args.cut c.args.rows.now row c.if-not-cut.false c.in-Some.ensures.item.0 c.in-Some.ensures.item.1) (c.up_to.ensures p stands)
