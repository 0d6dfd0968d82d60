-- Where a read is cut, and that what comes behind doesn't matter then.
use Rattle.std.proofs.Common.{◌≡◌, ◌⊎◌, ℕ, zero, suc, ◌+◌, ◌-◌, ◌<◌, ◌≤◌, Bool, true, false, ◌||◌, cond, List, [], ◌∷◌, ◌++◌, length, Option, Some, None, refl, sym, ap, ◌∙◌, inl, inr, arith}
use Rattle.std.specs.Prelude.{nat_lt, nat_le, is_some}
use Rattle.std.proofs.lemmas.Bool.Decides.{nat_tests}
use Rattle.cv_values.specs.declared.doc.Doc.{Doc}
use Rattle.fn_tree.specs.Scan.{doc_size, rows_size, passed, is_reached, is_cut, consumed_after}
use Rattle.fn_tree.specs.declared.stop.Left.{Left}
use Rattle.cv_store.specs.Reads.{cut}
use Rattle.cv_tx.specs.Plans.{quota_rows, most_rows}

-- ---- a bounded read

-- a read has all rows, or so many of them, or more of them than this size
pub record IsCutAt (rows size : ℕ) (ds got : List Doc) : Type 0 where
  pub rest : List Doc
  pub all : ds ≡ got ++ rest
  pub ends : (rest ≡ []) ⊎ ((rows ≤ length got) ⊎ (size < rows_size got))

pub is_cut_at : (rows size : ℕ) (ds : List Doc) → IsCutAt rows size ds (cut rows size ds)
is_cut_at zero size ds = record { rest = ds; all = refl; ends = inr (inl (omega arith)) }
is_cut_at (suc rows) size [] = record { rest = []; all = refl; ends = inl refl }
is_cut_at (suc rows) size (d ∷ ds) = go (nat_lt size (doc_size d)) refl (is_cut_at rows (size - doc_size d) ds)
  where
    go : (b : Bool) → nat_lt size (doc_size d) ≡ b → IsCutAt rows (size - doc_size d) ds (cut rows (size - doc_size d) ds)
        → IsCutAt (suc rows) size (d ∷ ds) (d ∷ cond b [] (cut rows (size - doc_size d) ds))
    go true e r =
        let below : size < doc_size d + 0 = grind (arith, nat_tests) in
        record { rest = ds; all = refl; ends = inr (inr below) }
    go false e r =
        let within : doc_size d ≤ size = grind (arith, nat_tests) in
        record {
          rest = r.rest;
          all = ap (λ l. d ∷ l) r.all;
          ends = elim r.ends [
            | inl none ↦ inl none
            | inr more ↦ inr (elim more [ inl n ↦ inl (omega (arith, n)) | inr s ↦ inr (omega (arith, s, within)) ])
          ];
        }

-- ---- consuming

rows_pass : (left : Left) (n size : ℕ) → quota_rows left ≤ n → is_some (passed left n size) ≡ true
rows_pass left n size h = grind (arith, nat_tests)

size_passes : (left : Left) (n size : ℕ) → left.size < size → is_some (passed left n size) ≡ true
size_passes left n size h = grind (arith, nat_tests)

or_true : (b c : Bool) → c ≡ true → b || c ≡ true
or_true true c e = refl
or_true false c e = e

-- as many rows as a read consumes at the most cut it
pub rows_cut : (limit : Option ℕ) (left : Left) (n size : ℕ) → most_rows limit left ≤ n → is_cut limit left n size ≡ true
rows_cut None left n size h = rows_pass left n size h
rows_cut (Some limit) left n size h = go (nat_le limit n) refl
  where
    go : (b : Bool) → nat_le limit n ≡ b → b || is_some (passed left n size) ≡ true
    go true e = refl
    go false e =
        let above : n < limit = grind (arith, nat_tests) in
        rows_pass left n size (omega (arith, above, h))

-- and so does a greater size than is left
pub size_cuts : (limit : Option ℕ) (left : Left) (n size : ℕ) → left.size < size → is_cut limit left n size ≡ true
size_cuts limit left n size h = or_true (is_reached limit n) (is_some (passed left n size)) (size_passes left n size h)

module _ (limit : Option ℕ) (left : Left) where
  nothing_more : (n size : ℕ) (ds : List Doc) → is_cut limit left n size ≡ true → consumed_after limit left n size ds ≡ []
  nothing_more n size [] e = refl
  nothing_more n size (d ∷ ds) e = ap (λ (b : Bool). let r : List Doc = elim b [ true ↦ [] | false ↦ d ∷ consumed_after limit left (suc n) (size + doc_size d) ds ] in r) e

  -- of rows whose front is cut the same is consumed as of the front
  pub front_consumed : (n size : ℕ) (F T : List Doc) → is_cut limit left (n + length F) (size + rows_size F) ≡ true
      → consumed_after limit left n size (F ++ T) ≡ consumed_after limit left n size F
  front_consumed n size [] T e =
      let n0 : n + 0 ≡ n = omega arith in
      let s0 : size + 0 ≡ size = omega arith in
      nothing_more n size T (ap (λ k. is_cut limit left k size) (sym n0) ∙ ap (is_cut limit left (n + 0)) (sym s0) ∙ e)
  front_consumed n size (d ∷ F) T e =
      let one : n + suc (length F) ≡ suc n + length F = omega arith in
      let more : size + (doc_size d + rows_size F) ≡ size + doc_size d + rows_size F = omega arith in
      ap (λ l. let r : List Doc = elim (is_cut limit left n size) [ true ↦ [] | false ↦ d ∷ l ] in r)
      (front_consumed (suc n) (size + doc_size d) F T
      (ap (λ k. is_cut limit left k (size + doc_size d + rows_size F)) (sym one) ∙ ap (is_cut limit left (n + suc (length F))) (sym more) ∙ e))
