-- A place among rows in order, found from the front on.
use Rattle.std.proofs.Common.{◌≡◌, ℕ, ◌+◌, ◌<◌, true, false, List, [], ◌∷◌, ◌++◌, length, get_or, take, drop, sym, ap, ◌∙◌, subst, append_assoc}
use Rattle.std.specs.Ordering.{is_gt}
use Rattle.std.specs.declared.cmp.Ordering.{Ordering}
use Rattle.std.proofs.Math.Seq.{drop-length}
use Rattle.std.proofs.lemmas.Bool.{cond-true, cond-false}
use Rattle.std.proofs.lemmas.List.{drop_more, take_more}
use Rattle.fn_tree.specs.Rows.{placed_in}

placed-over : {A : Type 0} (order : A → A → Ordering) (x : A) (rows : List A) (i : ℕ) (y : A) → i < length rows → y ≡ get_or rows i y → is_gt (order x y) ≡ true
    → placed_in order x (drop i rows) ≡ y ∷ placed_in order x (drop (i + 1) rows)
placed-over order x rows i y below is over =
    ap (placed_in order x) (drop_more rows i y below ∙ ap (λ z. z ∷ drop (i + 1) rows) (sym is)) ∙ cond-true (is_gt (order x y)) _ _ over

-- a row that x is above stands before x
pub placed-more : {A : Type 0} (order : A → A → Ordering) (x : A) (rows all : List A) (i : ℕ) (y : A) → i < length rows → y ≡ get_or rows i y → is_gt (order x y) ≡ true
    → all ≡ take i rows ++ placed_in order x (drop i rows) → all ≡ take (i + 1) rows ++ placed_in order x (drop (i + 1) rows)
placed-more order x rows all i y below is over h =
    h ∙ ap (λ l. take i rows ++ l) (placed-over order x rows i y below is over)
    ∙ sym (append_assoc (take i rows) (y ∷ []) (placed_in order x (drop (i + 1) rows)))
    ∙ ap (λ l. l ++ placed_in order x (drop (i + 1) rows)) (sym (take_more rows i y below ∙ ap (λ z. take i rows ++ z ∷ []) (sym is)))

-- before a row that x isn't above, x has its place
pub placed-here : {A : Type 0} (order : A → A → Ordering) (x : A) (rows all : List A) (i : ℕ) (y : A) → i < length rows → y ≡ get_or rows i y → is_gt (order x y) ≡ false
    → all ≡ take i rows ++ placed_in order x (drop i rows) → all ≡ take i rows ++ x ∷ drop i rows
placed-here order x rows all i y below is over h =
    let d : drop i rows ≡ y ∷ drop (i + 1) rows = drop_more rows i y below ∙ ap (λ z. z ∷ drop (i + 1) rows) (sym is) in
    h ∙ ap (λ l. take i rows ++ l) (ap (placed_in order x) d ∙ cond-false (is_gt (order x y)) _ _ over ∙ ap (λ l. x ∷ l) (sym d))

-- behind all rows that x is above, x has its place
pub placed-last : {A : Type 0} (order : A → A → Ordering) (x : A) (rows all : List A) (i : ℕ) → i ≡ length rows
    → all ≡ take i rows ++ placed_in order x (drop i rows) → all ≡ take (length rows) rows ++ x ∷ drop (length rows) rows
placed-last order x rows all i e h =
    subst (λ n. all ≡ take n rows ++ placed_in order x (drop n rows)) e h
    ∙ ap (λ l. take (length rows) rows ++ l) (ap (placed_in order x) (drop-length rows) ∙ ap (λ l. x ∷ l) (sym (drop-length rows)))
