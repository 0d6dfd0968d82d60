-- What is read decides where a course goes.
use Rattle.std.proofs.Common.{◌≡◌, ℕ, ◌+◌, Bool, true, false, List, [], ◌∷◌, ◌++◌, length, Option, Some, None, refl, sym, ap, ◌∙◌, subst, arith}
use Rattle.std.specs.Prelude.{filter, reverse, not, ◌&&◌, ◌==◌}
use Rattle.std.specs.declared.cmp.Ordering.{Ordering}
use Rattle.std.specs.Ordering.{flip_args}
use Rattle.std.specs.Cmp.{IsTotalOrder}
use Rattle.std.proofs.lemmas.Cmp.{back_total}
use Rattle.cv_values.specs.declared.doc.Doc.{Doc}
use Rattle.cv_keys.specs.Documents.{index_at, place}
use Rattle.cv_keys.specs.Places.{PlaceInterval, below, above, is_over}
use Rattle.cv_keys.specs.declared.schema.Index.{Index}
use Rattle.cv_keys.specs.declared.schema.Schema.{Schema}
use Rattle.fn_tree.specs.Course.{Ask, get_doc, scan_rows, done, ask, put}
use Rattle.fn_tree.specs.Documents.{Docs, doc_of}
use Rattle.fn_tree.specs.ReadLaws.{ReadsDecide}
use Rattle.fn_tree.specs.Rows.{row_cmp, rows_by, is_within, rows_in, rows_at}
use Rattle.fn_tree.specs.Run.{with_puts, Played, played}
use Rattle.fn_tree.specs.Scan.{Answer, found, answer, scan_answer, consumed_interval, consumed_after, cut_lo, cut_hi, is_cut, rows_size, in_direction, last_of, id_interval}
use Rattle.fn_tree.specs.declared.stop.Left.{Left}
use Rattle.fn_tree.specs.declared.stop.Put.{Put}
use Rattle.fn_tree.proofs.Consumed.{GoesDown, last_in, same_front, in_order_reverse, filter-reverse, consumed_front, consumed_again}
use Rattle.fn_tree.proofs.EndsInOrder.{not_over_above, over_below, over_above_up, over_below_up}
use Rattle.fn_tree.proofs.Insertions.{InOrder}
use Rattle.fn_tree.proofs.RowsUnderPuts.{rows_order, in_order_rows, rows_in-with_puts, rows_alike}

-- an ask's answers are the same where the rows in what it consumed are
abbrev pub Stable : Ask → Type 0
Stable q = (schema : Schema) (puts : List Put) (d e : Docs) →
    rows_at schema (answer schema (with_puts puts d) q).consumed d ≡ rows_at schema (answer schema (with_puts puts d) q).consumed e
    → answer schema (with_puts puts e) q ≡ answer schema (with_puts puts d) q

last_same : (d : Doc) (ds : List Doc) → last_of d ds ≡ last_in d ds
last_same d [] = refl
last_same d (e ∷ ds) = last_same e ds

up_tests : (t l h q : Bool) → (t && (l && h)) && q ≡ (t && (l && q)) && (t && (l && h))
up_tests false l h q = refl
up_tests true false h q = refl
up_tests true true true true = refl
up_tests true true true false = refl
up_tests true true false true = refl
up_tests true true false false = refl

down_tests : (t l h q : Bool) → (t && (l && h)) && q ≡ (t && (q && h)) && (t && (l && h))
down_tests false l h q = refl
down_tests true true true true = refl
down_tests true true true false = refl
down_tests true true false true = refl
down_tests true true false false = refl
down_tests true false true true = refl
down_tests true false true false = refl
down_tests true false false true = refl
down_tests true false false false = refl

not_back : (b c : Bool) → (b ≡ true → c ≡ true) → not c ≡ true → not b ≡ true
not_back true true f e = e
not_back true false f e = f refl
not_back false c f e = refl

-- the rows up to the last one that was consumed, or from it on
abbrev behind : Index → Doc → Doc → Bool
behind index last d = not (is_over (place d index) (above (place last index)))

abbrev ahead : Index → Doc → Doc → Bool
ahead index last d = is_over (place d index) (below (place last index))

behind_down : (index : Index) (last : Doc) → GoesDown (row_cmp index) (behind index last)
behind_down index last x y k e =
    not_back (is_over (place x index) (above (place last index))) (is_over (place y index) (above (place last index)))
    (over_above_up (place last index) (place x index) (place y index) k) e

behind_itself : (index : Index) (last : Doc) → behind index last last ≡ true
behind_itself index last = ap not (not_over_above (place last index))

ahead_down : (index : Index) (last : Doc) → GoesDown (flip_args (row_cmp index)) (ahead index last)
ahead_down index last x y k e = over_below_up (place last index) (place y index) (place x index) k e

ahead_itself : (index : Index) (last : Doc) → ahead index last last ≡ true
ahead_itself index last = over_below (place last index)

-- one list of rows and another from which the same is consumed
abbrev Again : Option ℕ → Left → List Doc → List Doc → Type 0
Again most left xs ys = consumed_after most left 0 0 ys ≡ consumed_after most left 0 0 xs

again_by_front : (most : Option ℕ) (left : Left) (xs ys more : List Doc) →
    is_cut most left (length (consumed_after most left 0 0 xs)) (rows_size (consumed_after most left 0 0 xs)) ≡ true →
    ys ≡ consumed_after most left 0 0 xs ++ more → Again most left xs ys
again_by_front most left xs ys more cut e =
    let taken = consumed_after most left 0 0 xs in
    let n0 : 0 + length taken ≡ length taken = omega arith in
    let s0 : 0 + rows_size taken ≡ rows_size taken = omega arith in
    ap (consumed_after most left 0 0) e
    ∙ consumed_again most left 0 0 xs more (ap (λ k. is_cut most left k (0 + rows_size taken)) n0 ∙ ap (λ k. is_cut most left (length taken) k) s0 ∙ cut)

-- both lists in order, and the same of both pass a test that the last row passes
again : (R : Doc → Doc → Ordering) (most : Option ℕ) (left : Left) (f : Doc → Doc → Bool) →
    ((last : Doc) → GoesDown R (f last)) → ((last : Doc) → f last last ≡ true) →
    (xs ys taken : List Doc) → consumed_after most left 0 0 xs ≡ taken → InOrder R xs → InOrder R ys →
    ((x : Doc) (front : List Doc) → taken ≡ x ∷ front → filter (f (last_of x front)) xs ≡ filter (f (last_of x front)) ys) →
    is_cut most left (length taken) (rows_size taken) ≡ true → Again most left xs ys
again R most left f down itself xs ys [] is h k same cut =
    again_by_front most left xs ys ys (ap (λ l. is_cut most left (length l) (rows_size l)) is ∙ cut) (ap (λ l. l ++ ys) (sym is))
again R most left f down itself xs ys (x ∷ front) is h k same cut =
    let r = consumed_front most left 0 0 xs in
    let whole : xs ≡ (x ∷ front) ++ r.0 = r.1 ∙ ap (λ l. l ++ r.0) is in
    let last = last_of x front in
    let m = same_front R (f last) (down last) x front r.0 ys (subst (InOrder R) whole h) k
    (ap (f last) (sym (last_same x front)) ∙ itself last)
    (ap (filter (f last)) (sym whole) ∙ same x front refl) in
    again_by_front most left xs ys m.0 (ap (λ l. is_cut most left (length l) (rows_size l)) is ∙ cut)
    (m.1 ∙ ap (λ l. l ++ m.0) (sym is))

-- the interval that a read tells of
abbrev told : Index → PlaceInterval → (desc cut : Bool) → List Doc → PlaceInterval
told index i desc cut taken = record i { lo = cut_lo (Some index) i desc cut taken; hi = cut_hi (Some index) i desc cut taken }

abbrev SameIn : Index → PlaceInterval → Docs → Docs → Type 0
SameIn index i d e = rows_in (Some index) i d ≡ rows_in (Some index) i e

found_again : (index : Index) (i : PlaceInterval) (desc cut : Bool) (most : Option ℕ) (left : Left) (d e : Docs) →
    let xs = in_direction desc (rows_in (Some index) i d) in
    let taken = consumed_after most left 0 0 xs in
    is_cut most left (length taken) (rows_size taken) ≡ cut →
    SameIn index (told index i desc cut taken) d e → Again most left xs (in_direction desc (rows_in (Some index) i e))
found_again index i false false most left d e c h = ap (consumed_after most left 0 0) (sym h)
found_again index i true false most left d e c h = ap (λ l. consumed_after most left 0 0 (reverse l)) (sym h)
found_again index i false true most left d e c h = again (row_cmp index) most left (behind index) (behind_down index) (behind_itself index)
    (all_rows d) (all_rows e) taken refl (in_order_rows index (is_within index i) d) (in_order_rows index (is_within index i) e)
    (λ x front is. part d (last_of x front) ∙ ap (filter (is_within index i)) (subst (λ l. SameIn index (told index i false true l) d e) is h) ∙ sym (part e (last_of x front))) c
  where
    all_rows : Docs → List Doc
    all_rows ds = rows_by index (is_within index i) ds

    taken : List Doc
    taken = consumed_after most left 0 0 (all_rows d)

    part : (ds : Docs) (last : Doc) → filter (behind index last) (all_rows ds)
        ≡ filter (is_within index i) (rows_by index (is_within index (record i { hi = above (place last index) })) ds)
    part ds last = rows_alike index (is_within index i) (behind index last) (is_within index (record i { hi = above (place last index) })) (is_within index i)
        (λ x. up_tests (x.id.table == i.table) (is_over (place x index) i.lo) (not (is_over (place x index) i.hi)) (behind index last x)) ds
found_again index i true true most left d e c h = again (flip_args (row_cmp index)) most left (ahead index) (ahead_down index) (ahead_itself index)
    (reverse (all_rows d)) (reverse (all_rows e)) taken refl
    (in_order_reverse flipped (all_rows d) (in_order_rows index (is_within index i) d))
    (in_order_reverse flipped (all_rows e) (in_order_rows index (is_within index i) e))
    (λ x front is. filter-reverse (ahead index (last_of x front)) (all_rows d)
    ∙ ap reverse (part d (last_of x front) ∙ ap (filter (is_within index i)) (subst (λ l. SameIn index (told index i true true l) d e) is h) ∙ sym (part e (last_of x front)))
    ∙ sym (filter-reverse (ahead index (last_of x front)) (all_rows e))) c
  where
    flipped : IsTotalOrder (flip_args (row_cmp index))
    flipped = back_total (rows_order index)

    all_rows : Docs → List Doc
    all_rows ds = rows_by index (is_within index i) ds

    taken : List Doc
    taken = consumed_after most left 0 0 (reverse (all_rows d))

    part : (ds : Docs) (last : Doc) → filter (ahead index last) (all_rows ds)
        ≡ filter (is_within index i) (rows_by index (is_within index (record i { lo = below (place last index) })) ds)
    part ds last = rows_alike index (is_within index i) (ahead index last) (is_within index (record i { lo = below (place last index) })) (is_within index i)
        (λ x. down_tests (x.id.table == i.table) (is_over (place x index) i.lo) (not (is_over (place x index) i.hi)) (ahead index last x)) ds

answer_again : (index : Option Index) (i : PlaceInterval) (desc : Bool) (most : Option ℕ) (left : Left) (d e : Docs) →
    let j = (scan_answer index (rows_in index i d) i desc most left).consumed in
    rows_in index j d ≡ rows_in index j e →
    scan_answer index (rows_in index i e) i desc most left ≡ scan_answer index (rows_in index i d) i desc most left
answer_again None i desc most left d e h = refl
answer_again (Some index) i desc most left d e h =
    let taken = consumed_after most left 0 0 (in_direction desc (rows_in (Some index) i d)) in
    ap (λ l. let a : Answer = record { docs = l; consumed = consumed_interval (Some index) i desc most left l } in a)
    (found_again index i desc (is_cut most left (length taken) (rows_size taken)) most left d e refl h)

scan_stable : (i : PlaceInterval) (desc : Bool) (most : Option ℕ) (left : Left) → Stable (scan_rows i desc most left)
scan_stable i desc most left schema puts d e h =
    let index = index_at schema i.table i.index in
    let j = (answer schema (with_puts puts d) (scan_rows i desc most left)).consumed in
    answer_again index i desc most left (with_puts puts d) (with_puts puts e) (rows_in-with_puts index j puts d e h)

stable : (q : Ask) → Stable q
stable (get_doc id left) schema puts d e h =
    let i = id_interval id in
    ap (λ r. let a : Answer = record { docs = found (doc_of id r); consumed = i } in a) (sym (rows_in-with_puts (index_at schema i.table i.index) i puts d e h))
stable (scan_rows i desc most left) schema puts d e h = scan_stable i desc most left schema puts d e h

pub reads_decide : ReadsDecide
reads_decide schema (done out) puts d e h = refl
reads_decide schema (put p next) puts d e h = reads_decide schema next (puts ++ p ∷ []) d e h
reads_decide schema (ask q next) puts d e h =
    let a = answer schema (with_puts puts d) q in
    let same : answer schema (with_puts puts e) q ≡ a = stable q schema puts d e h.0 in
    let go : Answer → Played = λ b. let rest = played schema e puts (next b.docs) in record rest { reads = b.consumed ∷ rest.reads } in
    ap go same ∙ ap (λ (rest : Played). record rest { reads = a.consumed ∷ rest.reads }) (reads_decide schema (next a.docs) puts d e h.1)
