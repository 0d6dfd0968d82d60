-- How many rows a scan consumes.
use Rattle.std.proofs.Common.{◌≡◌, ℕ, ◌+◌, ◌<◌, ◌≤◌, Bool, true, false, List, [], ◌∷◌, ◌++◌, length, get_or, take, drop, Option, suc, refl, sym, ap, ◌∙◌, append_assoc, append-nil, length-take, arith}
use Rattle.std.proofs.Math.ListN.{drop_of_length-le}
use Rattle.std.proofs.lemmas.List.{drop_more, take_more}
use Rattle.cv_values.specs.declared.doc.Doc.{Doc}
use Rattle.fn_tree.specs.Scan.{doc_size, rows_size, is_cut, consumed_after}
use Rattle.fn_tree.specs.declared.stop.Left.{Left}
use Rattle.cv_tx.proofs.Fronts.{size-append}

chosen-true : {A : Type 0} (b : Bool) (x y : A) → b ≡ true → elim b [ true ↦ x | false ↦ y ] ≡ x
chosen-true true x y e = refl
chosen-true false x y e = cc

chosen-false : {A : Type 0} (b : Bool) (x y : A) → b ≡ false → elim b [ true ↦ x | false ↦ y ] ≡ y
chosen-false true x y e = cc
chosen-false false x y e = refl

size-more : (rows : List Doc) (i : ℕ) (d : Doc) → i < length rows → d ≡ get_or rows i d → rows_size (take (i + 1) rows) ≡ rows_size (take i rows) + doc_size d
size-more rows i d below is =
    ap rows_size (take_more rows i d below ∙ ap (λ z. take i rows ++ z ∷ []) (sym is)) ∙ size-append (take i rows) (d ∷ []) ∙ (omega arith)

-- one row more is consumed
pub consumed-more : (limit : Option ℕ) (left : Left) (rows all : List Doc) (i : ℕ) (d : Doc) → i < length rows → d ≡ get_or rows i d
    → is_cut limit left i (rows_size (take i rows)) ≡ false
    → all ≡ take i rows ++ consumed_after limit left i (rows_size (take i rows)) (drop i rows)
    → (rows_size (take (i + 1) rows) ≡ rows_size (take i rows) + doc_size d) × (all ≡ take (i + 1) rows ++ consumed_after limit left (i + 1) (rows_size (take (i + 1) rows)) (drop (i + 1) rows))
consumed-more limit left rows all i d below is uncut h =
    let t : take (i + 1) rows ≡ take i rows ++ d ∷ [] = take_more rows i d below ∙ ap (λ z. take i rows ++ z ∷ []) (sym is) in
    let s = size-more rows i d below is in
    let later : ℕ → ℕ → List Doc = λ n size. consumed_after limit left n size (drop (i + 1) rows) in (
      s,
      h ∙ ap (λ l. take i rows ++ consumed_after limit left i (rows_size (take i rows)) l) (drop_more rows i d below ∙ ap (λ z. z ∷ drop (i + 1) rows) (sym is))
          ∙ ap (λ l. take i rows ++ l) (chosen-false (is_cut limit left i (rows_size (take i rows))) _ _ uncut)
          ∙ sym (append_assoc (take i rows) (d ∷ []) (later (suc i) (rows_size (take i rows) + doc_size d)))
          ∙ ap (λ l. l ++ later (suc i) (rows_size (take i rows) + doc_size d)) (sym t)
          ∙ ap (λ n. take (i + 1) rows ++ later n (rows_size (take i rows) + doc_size d)) (omega arith)
          ∙ ap (λ size. take (i + 1) rows ++ later (i + 1) size) (sym s),
    )

-- what is consumed in the end
pub record Consumed (rows all : List Doc) (i : ℕ) : Type 0 where
  pub count : i ≡ length all
  pub size : rows_size (take i rows) ≡ rows_size all
  pub front : take i rows ≡ all

consumed-all : (rows all : List Doc) (i : ℕ) → i ≤ length rows → all ≡ take i rows ++ [] → Consumed rows all i
consumed-all rows all i within h =
    let f : take i rows ≡ all = sym (h ∙ append-nil (take i rows)) in
    record { count = (omega (arith, length-take i rows)) ∙ ap length f; size = ap rows_size f; front = f }

-- where the scan is cut nothing more is consumed
pub consumed-cut : (limit : Option ℕ) (left : Left) (rows all : List Doc) (i : ℕ) (d : Doc) → i < length rows → d ≡ get_or rows i d
    → is_cut limit left i (rows_size (take i rows)) ≡ true
    → all ≡ take i rows ++ consumed_after limit left i (rows_size (take i rows)) (drop i rows) → Consumed rows all i
consumed-cut limit left rows all i d below is cut h =
    consumed-all rows all i (omega arith)
    (h ∙ ap (λ l. take i rows ++ consumed_after limit left i (rows_size (take i rows)) l) (drop_more rows i d below)
    ∙ ap (λ l. take i rows ++ l) (chosen-true (is_cut limit left i (rows_size (take i rows))) _ _ cut))

-- nor where no row is left
pub consumed-last : (limit : Option ℕ) (left : Left) (rows all : List Doc) (i : ℕ) → i ≤ length rows → length rows ≤ i
    → all ≡ take i rows ++ consumed_after limit left i (rows_size (take i rows)) (drop i rows) → Consumed rows all i
consumed-last limit left rows all i within above h =
    consumed-all rows all i within
    (h ∙ ap (λ l. take i rows ++ consumed_after limit left i (rows_size (take i rows)) l) (drop_of_length-le rows above))
