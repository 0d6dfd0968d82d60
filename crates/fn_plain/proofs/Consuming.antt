-- How many rows a scan consumes.
use Rattle.std.proofs.Common.{◌≡◌, ℕ, ◌+◌, ◌-◌, ◌^◌, ◌<◌, ◌≤◌, min, Bool, true, false, ◌||◌, List, [], ◌∷◌, ◌++◌, length, get_or, take, drop, Option, Some, None, suc, refl, sym, ap, ◌∙◌, append_assoc, append-nil, length-take, arith}
use Rattle.std.specs.Prelude.{nat_lt, is_some, if◌then◌else◌}
use Rattle.std.proofs.Math.ListN.{drop_of_length-le}
use Rattle.std.proofs.lemmas.Bool.Decides.{nat_tests}
use Rattle.std.proofs.lemmas.List.{drop_more, take_more}
use Rattle.cv_values.specs.declared.doc.Doc.{Doc}
use Rattle.cv_keys.specs.Intervals.{in_bytes}
use Rattle.cv_keys.specs.Places.{PlaceInterval}
use Rattle.cv_keys.specs.declared.schema.Index.{Index}
use Rattle.fn_tree.specs.Scan.{of_cost, of_rows, of_size, of_read, read_rows, doc_size, rows_size, is_reached, is_cut, consumed_after, in_direction, scan_answer}
use Rattle.fn_tree.specs.declared.stop.Left.{Left}
use Rattle.fn_plain.specs.Scans.{Scans, part_of}
use Rattle.fn_plain.specs.declared.scan.Scanned.{Scanned}

pub same_test : (a size held : ℕ) → a < 2 ^ 62 → held ≡ min size (2 ^ 64 - 1) → nat_lt a held ≡ nat_lt a size
same_test a size held room e = grind (arith, nat_tests)

-- a size that ends at the greatest number passes a small quota as the true size does
pub cut-same : (limit : Option ℕ) (left : Left) (n size held : ℕ) → left.size < 2 ^ 62 → held ≡ min size (2 ^ 64 - 1) → is_cut limit left n held ≡ is_cut limit left n size
cut-same limit left n size held room e = ap (λ b. is_reached limit n || is_some (
    if nat_lt left.cost n then Some of_cost
    else (if nat_lt left.rows n then Some of_rows
    else (if b then Some of_size
    else (if nat_lt read_rows n then Some of_read else None))))) (same_test left.size size held room e)

chosen-true : {A : Type 0} (b : Bool) (x y : A) → b ≡ true → elim b [ true ↦ x | false ↦ y ] ≡ x
chosen-true true x y e = refl
chosen-true false x y e = cc

chosen-false : {A : Type 0} (b : Bool) (x y : A) → b ≡ false → elim b [ true ↦ x | false ↦ y ] ≡ y
chosen-false true x y e = cc
chosen-false false x y e = refl

pub size-append : (ds es : List Doc) → rows_size (ds ++ es) ≡ rows_size ds + rows_size es
size-append [] es = omega arith
size-append (d ∷ ds) es = let h = size-append ds es in omega (arith, h)

pub size-more : (rows : List Doc) (i : ℕ) (d : Doc) → i < length rows → d ≡ get_or rows i d → rows_size (take (i + 1) rows) ≡ rows_size (take i rows) + doc_size d
size-more rows i d below is =
    ap rows_size (take_more rows i d below ∙ ap (λ z. take i rows ++ z ∷ []) (sym is)) ∙ size-append (take i rows) (d ∷ []) ∙ (omega arith)

-- one row more is consumed
pub consumed-more : (limit : Option ℕ) (left : Left) (rows all : List Doc) (i : ℕ) (d : Doc) → i < length rows → d ≡ get_or rows i d
    → is_cut limit left i (rows_size (take i rows)) ≡ false
    → all ≡ take i rows ++ consumed_after limit left i (rows_size (take i rows)) (drop i rows)
    → (rows_size (take (i + 1) rows) ≡ rows_size (take i rows) + doc_size d) × (all ≡ take (i + 1) rows ++ consumed_after limit left (i + 1) (rows_size (take (i + 1) rows)) (drop (i + 1) rows))
consumed-more limit left rows all i d below is uncut h =
    let t : take (i + 1) rows ≡ take i rows ++ d ∷ [] = take_more rows i d below ∙ ap (λ z. take i rows ++ z ∷ []) (sym is) in
    let s = size-more rows i d below is in
    let later : ℕ → ℕ → List Doc = λ n size. consumed_after limit left n size (drop (i + 1) rows) in (
      s,
      h ∙ ap (λ l. take i rows ++ consumed_after limit left i (rows_size (take i rows)) l) (drop_more rows i d below ∙ ap (λ z. z ∷ drop (i + 1) rows) (sym is))
          ∙ ap (λ l. take i rows ++ l) (chosen-false (is_cut limit left i (rows_size (take i rows))) _ _ uncut)
          ∙ sym (append_assoc (take i rows) (d ∷ []) (later (suc i) (rows_size (take i rows) + doc_size d)))
          ∙ ap (λ l. l ++ later (suc i) (rows_size (take i rows) + doc_size d)) (sym t)
          ∙ ap (λ n. take (i + 1) rows ++ later n (rows_size (take i rows) + doc_size d)) (omega arith)
          ∙ ap (λ size. take (i + 1) rows ++ later (i + 1) size) (sym s),
    )

-- what is consumed in the end
pub record Consumed (rows all : List Doc) (i : ℕ) : Type 0 where
  pub count : i ≡ length all
  pub size : rows_size (take i rows) ≡ rows_size all
  pub front : take i rows ≡ all

consumed-all : (rows all : List Doc) (i : ℕ) → i ≤ length rows → all ≡ take i rows ++ [] → Consumed rows all i
consumed-all rows all i within h =
    let f : take i rows ≡ all = sym (h ∙ append-nil (take i rows)) in
    record { count = (omega (arith, length-take i rows)) ∙ ap length f; size = ap rows_size f; front = f }

-- where the scan is cut nothing more is consumed
pub consumed-cut : (limit : Option ℕ) (left : Left) (rows all : List Doc) (i : ℕ) (d : Doc) → i < length rows → d ≡ get_or rows i d
    → is_cut limit left i (rows_size (take i rows)) ≡ true
    → all ≡ take i rows ++ consumed_after limit left i (rows_size (take i rows)) (drop i rows) → Consumed rows all i
consumed-cut limit left rows all i d below is cut h =
    consumed-all rows all i (omega arith)
    (h ∙ ap (λ l. take i rows ++ consumed_after limit left i (rows_size (take i rows)) l) (drop_more rows i d below)
    ∙ ap (λ l. take i rows ++ l) (chosen-true (is_cut limit left i (rows_size (take i rows))) _ _ cut))

-- nor where no row is left
pub consumed-last : (limit : Option ℕ) (left : Left) (rows all : List Doc) (i : ℕ) → i ≤ length rows → length rows ≤ i
    → all ≡ take i rows ++ consumed_after limit left i (rows_size (take i rows)) (drop i rows) → Consumed rows all i
consumed-last limit left rows all i within above h =
    consumed-all rows all i within
    (h ∙ ap (λ l. take i rows ++ consumed_after limit left i (rows_size (take i rows)) l) (drop_of_length-le rows above))

-- a scan of these rows, by how many were consumed and by their size as it is held
pub scan-is : (index : Index) (p : PlaceInterval) (desc : Bool) (limit : Option ℕ) (left : Left) (rows : List Doc) (s : Scanned) (n size : ℕ) (cut : Bool) → left.size < 2 ^ 62
    → n ≡ length (consumed_after limit left 0 0 (in_direction desc rows)) → size ≡ min (rows_size (consumed_after limit left 0 0 (in_direction desc rows))) (2 ^ 64 - 1)
    → s.docs.items ≡ consumed_after limit left 0 0 (in_direction desc rows) → cut ≡ is_cut limit left n size
    → s.consumed ≡ in_bytes (part_of (Some index) p desc cut (consumed_after limit left 0 0 (in_direction desc rows)))
    → Scans s (scan_answer (Some index) rows p desc limit left)
scan-is index p desc limit left rows s n size cut room n_is size_is docs_are cut_is consumed_is =
    let ds = consumed_after limit left 0 0 (in_direction desc rows) in
    let same : cut ≡ is_cut limit left (length ds) (rows_size ds) = cut_is ∙ ap (λ k. is_cut limit left k size) n_is ∙ cut-same limit left (length ds) (rows_size ds) size room size_is in
    record { docs = docs_are; consumed = consumed_is ∙ ap (λ b. in_bytes (part_of (Some index) p desc b ds)) same }
