-- Functions by their kinds and paths, and arguments by their names.
use Rattle.std.proofs.Common.{◌≡◌, ◌∙◌, ◌<◌, ℕ, zero, suc, ◌+◌, Bool, true, false, ◌&&◌, List, [], ◌∷◌, length, map, take, drop, cond, sym, ap, subst, arith, add-one}
use Rattle.std.specs.Prelude.{Some, slice_get, slice_index_or, option_map}
use Rattle.std.specs.Str.{bytes_eq}
use Rattle.fn_tree.specs.Actions.{Site}
use Rattle.fn_tree.specs.Functions.{is_kind, found_in, function_means, seen_after}
use Rattle.fn_tree.specs.SyntaxTree.{FunctionTree}
use Rattle.fn_tree.specs.SyntaxViews.{function_view}
use Rattle.fn_tree.specs.declared.syntax.Function.{Function}
use Rattle.fn_tree.specs.declared.syntax.Kind.{Kind}
use Rattle.fn_plain.specs.Runs.{function_at}
use Rattle.fn_plain.specs.States.{site_after}

pub number-of : (fs : List Function) (i : ℕ) (f : Function) → i < length fs → f ≡ slice_index_or fs i f → slice_get (map function_view fs) i ≡ Some (function_view f)
number-of [] i f w h = absurd (omega arith)
number-of (g ∷ fs) zero f w h = ap (λ (u : Function). Some (function_view u)) (sym h)
number-of (g ∷ fs) (suc i) f w h = number-of fs i f (omega arith) h

abbrev fits_call : Kind → List ℕ → FunctionTree → Bool
fits_call kind udf f = is_kind kind f.kind && bytes_eq f.udf udf

module _ (kind : Kind) (udf : List ℕ) where
  -- a function that isn't looked for is passed
  found-step : (site : Site) (fs : List FunctionTree) (i : ℕ) (f : FunctionTree) → slice_get fs i ≡ Some f → fits_call kind udf f ≡ false →
      found_in kind udf (site_after site (take i fs)) (drop i fs) ≡ found_in kind udf (site_after site (take (suc i) fs)) (drop (suc i) fs)
  found-step site [] i f h k = cc
  found-step site (g ∷ fs) zero f h k =
      let e : f ≡ g = cc in
      ap (λ b. cond b (Some (g.params, function_means site g)) (found_in kind udf (seen_after site g) fs)) (subst (λ u. fits_call kind udf u ≡ false) e k)
  found-step site (g ∷ fs) (suc i) f h k = found-step (seen_after site g) fs i f h k

  -- the first that is looked for is found
  found-here : (site : Site) (fs : List FunctionTree) (i : ℕ) (f : FunctionTree) → slice_get fs i ≡ Some f → fits_call kind udf f ≡ true →
      found_in kind udf (site_after site (take i fs)) (drop i fs) ≡ Some (f.params, function_means (site_after site (take i fs)) f)
  found-here site [] i f h k = cc
  found-here site (g ∷ fs) zero f h k =
      let e : f ≡ g = cc in
      ap (λ b. cond b (Some (g.params, function_means site g)) (found_in kind udf (seen_after site g) fs)) (subst (λ u. fits_call kind udf u ≡ true) e k)
      ∙ ap (λ (u : FunctionTree). Some (u.params, function_means site u)) (sym e)
  found-here site (g ∷ fs) (suc i) f h k = found-here (seen_after site g) fs i f h k

  -- the same of the function of a number
  pub found-at : (site : Site) (fs : List FunctionTree) (i : ℕ) (f : FunctionTree) → slice_get fs i ≡ Some f → fits_call kind udf f ≡ true →
      found_in kind udf (site_after site (take i fs)) (drop i fs) ≡ function_at site fs (Some i)
  found-at site fs i f h k = found-here site fs i f h k ∙ sym (ap (option_map (λ (u : FunctionTree). (u.params, function_means (site_after site (take i fs)) u))) h)

  pub found-past : (site : Site) (fs : List FunctionTree) (i : ℕ) (f : FunctionTree) → slice_get fs i ≡ Some f → fits_call kind udf f ≡ false →
      found_in kind udf (site_after site (take i fs)) (drop i fs) ≡ found_in kind udf (site_after site (take (i + 1) fs)) (drop (i + 1) fs)
  found-past site fs i f h k = found-step site fs i f h k ∙ ap (λ n. found_in kind udf (site_after site (take n fs)) (drop n fs)) (sym (add-one i))
