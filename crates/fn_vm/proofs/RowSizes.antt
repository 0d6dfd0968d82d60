-- The rows of a read against the quotas.
use Rattle.std.proofs.Common.{◌≡◌, ◌∙◌, ℕ, ◌+◌, ◌-◌, ◌^◌, ◌<◌, min, Bool, List, [], ◌∷◌, ◌++◌, length, take, get_or, Option, Some, None, refl, sym, ap, arith}
use Rattle.std.specs.Prelude.{nat_lt, if◌then◌else◌, option_map, slice_get}
use Rattle.std.proofs.lemmas.Bool.Decides.{nat_tests}
use Rattle.std.proofs.lemmas.List.{take_more}
use Rattle.cv_values.specs.declared.doc.Doc.{Doc}
use Rattle.fn_code.specs.States.{State, Next, fails}
use Rattle.fn_code.specs.Steps.{Terms, left_of, answered, goes_on_at}
use Rattle.fn_code.specs.declared.code.Code.{Code}
use Rattle.fn_tree.specs.Actions.{Counts, quota_text}
use Rattle.fn_tree.specs.Scan.{Quota, of_cost, of_rows, of_size, of_read, read_rows, doc_size, rows_size, passed}
use Rattle.fn_tree.specs.declared.stop.Left.{Left}

pub size_append : (ds es : List Doc) → rows_size (ds ++ es) ≡ rows_size ds + rows_size es
size_append [] es = omega arith
size_append (d ∷ ds) es = let h = size_append ds es in omega (arith, h)

-- a row more adds its size
pub size_more : (rows : List Doc) (i : ℕ) (d : Doc) → i < length rows → d ≡ get_or rows i d → rows_size (take (i + 1) rows) ≡ rows_size (take i rows) + doc_size d
size_more rows i d below is =
    ap rows_size (take_more rows i d below ∙ ap (λ z. take i rows ++ z ∷ []) (sym is)) ∙ size_append (take i rows) (d ∷ []) ∙ (omega arith)

-- the first of four that holds
abbrev first_passed : (a b s r : Bool) → Option Quota
first_passed a b s r = if a then Some of_cost else (if b then Some of_rows else (if s then Some of_size else (if r then Some of_read else None)))

same_test : (a size held : ℕ) → a < 2 ^ 62 → held ≡ min size (2 ^ 64 - 1) → nat_lt a held ≡ nat_lt a size
same_test a size held room e = grind (arith, nat_tests)

-- a size that ends at the greatest number passes the quotas as the true size does
pub passed_same : (left : Left) (n size held : ℕ) → left.size < 2 ^ 62 → held ≡ min size (2 ^ 64 - 1) → passed left n held ≡ passed left n size
passed_same left n size held room e =
    ap (λ b. first_passed (nat_lt left.cost n) (nat_lt left.rows n) b (nat_lt read_rows n)) (same_test left.size size held room e)

-- the text of a quota that is passed tells the quota
abbrev pub Passes : Option Quota → List ℕ → Type 0
Passes o text = (quota : Quota) × (o ≡ Some quota) × (text ≡ quota_text quota)

pub passes_as : (o : Option Quota) (text : List ℕ) → Some text ≡ option_map quota_text o → Passes o text
passes_as None text h = cc
passes_as (Some quota) text h = (quota, refl, some_same text (quota_text quota) h)
  where
    some_same : (x y : List ℕ) → Some x ≡ Some y → x ≡ y
    some_same x y e = cc

pub passes_none : (o : Option Quota) → None ≡ option_map quota_text o → o ≡ None
passes_none None h = refl
passes_none (Some quota) h = cc

-- ---- what comes of rows

abbrev pub counts_after : Counts → List Doc → Counts
counts_after c ds = record c { cost = c.cost + length ds; rows = c.rows + length ds; size = c.size + rows_size ds }

abbrev coming : Terms → Code → State → List Doc → Option Quota → Next
coming t code s ds o = elim o [
  | None ↦ goes_on_at t (record s { counts = counts_after s.counts ds }) ds (slice_get code.instrs s.frame.at)
  | Some quota ↦ fails (counts_after s.counts ds) (quota_text quota)
]

-- rows within the quotas, whose size is held as it is
pub rows_fit : (t : Terms) (code : Code) (s : State) (ds : List Doc) (left : Left) (held : ℕ) → left ≡ left_of t s.counts → held ≡ min (rows_size ds) (2 ^ 64 - 1) → held < 2 ^ 32 → left.size < 2 ^ 32 →
    None ≡ option_map quota_text (passed left (length ds) held) →
    answered t code s ds ≡ goes_on_at t (record s { counts = record (counts_after s.counts ds) { size = s.counts.size + held } }) ds (slice_get code.instrs s.frame.at)
rows_fit t code s ds left held left_is e small room h =
    let none : passed (left_of t s.counts) (length ds) (rows_size ds) ≡ None =
    ap (λ l. passed l (length ds) (rows_size ds)) (sym left_is) ∙ sym (passed_same left (length ds) (rows_size ds) held (omega arith) e) ∙ passes_none (passed left (length ds) held) h in
    let same : rows_size ds ≡ held = omega (arith, e, small) in
    ap (coming t code s ds) none ∙ ap (λ k. goes_on_at t (record s { counts = record (counts_after s.counts ds) { size = s.counts.size + k } }) ds (slice_get code.instrs s.frame.at)) same

-- rows that pass a quota, whose text this is
pub rows_pass : (t : Terms) (code : Code) (s : State) (ds : List Doc) (left : Left) (held : ℕ) (text : List ℕ) → left ≡ left_of t s.counts → held ≡ min (rows_size ds) (2 ^ 64 - 1) → left.size < 2 ^ 32 →
    Some text ≡ option_map quota_text (passed left (length ds) held) → answered t code s ds ≡ fails (counts_after s.counts ds) text
rows_pass t code s ds left held text left_is e room h =
    let found = passes_as (passed left (length ds) held) text h in
    let some : passed (left_of t s.counts) (length ds) (rows_size ds) ≡ Some found.0 =
    ap (λ l. passed l (length ds) (rows_size ds)) (sym left_is) ∙ sym (passed_same left (length ds) (rows_size ds) held (omega arith) e) ∙ found.1 in
    ap (coming t code s ds) some ∙ ap (fails (counts_after s.counts ds)) (sym found.2)
