-- Variables by their names, and parameters bound to values.
use Rattle.std.proofs.Common.{◌≡◌, ℕ, suc, ◌+◌, Bool, true, false, not, cond, List, [], ◌∷◌, map, length, Option, Some, None, get_or, refl, sym, ap, ◌∙◌, subst, arith, ◌++◌, append_assoc, append-nil, drop, ◌<◌}
use Rattle.std.proofs.lemmas.List.{map-append, drop_more}
use Rattle.std.proofs.Math.ListN.{set}
use Rattle.std.proofs.lemmas.Bool.Decides.{nat_tests}
use Rattle.std.specs.Prelude.{nat_lt, position, option_map}
use Rattle.std.specs.List.{position_or_len}
use Rattle.std.specs.Str.{bytes_eq}
use Rattle.cv_values.specs.Trees.{tree}
use Rattle.cv_values.specs.Value.{Value}
use Rattle.cv_values.specs.declared.val.Val.{Val}
use Rattle.fn_tree.specs.Actions.{Scope}
use Rattle.fn_tree.specs.Names.{assigned, bound_to}
use Rattle.fn_tree.specs.declared.syntax.Named.{Named}
use Rattle.fn_plain.specs.Scopes.{pairs_view}

abbrev at_first : List ℕ → List (List ℕ × Val) → ℕ
at_first n xs = position_or_len (λ (p : List ℕ × Val). bytes_eq p.0 n) xs

abbrev is_there : List ℕ → List (List ℕ × Val) → Bool
is_there n xs = nat_lt (at_first n xs) (length xs)

-- setting the value where the name stands first is an assignment
assigned-there : (n : List ℕ) (v : Val) (xs : List (List ℕ × Val)) (x : List ℕ × Val) (at : ℕ) → at ≡ at_first n xs → is_there n xs ≡ true
    → x ≡ get_or xs at x → assigned n (tree v) (pairs_view xs) ≡ Some (pairs_view (set xs at (x.0, v)))
assigned-there n v [] x at e there h = cc
assigned-there n v (y ∷ ys) x at e there h = go (bytes_eq y.0 n) refl (assigned-there n v ys x (at_first n ys) refl) e there h
  where
    go : (b : Bool) → bytes_eq y.0 n ≡ b
        → (is_there n ys ≡ true → x ≡ get_or ys (at_first n ys) x → assigned n (tree v) (pairs_view ys) ≡ Some (pairs_view (set ys (at_first n ys) (x.0, v))))
        → at ≡ cond (not b) (1 + at_first n ys) 0 → nat_lt (cond (not b) (1 + at_first n ys) 0) (suc (length ys)) ≡ true → x ≡ get_or (y ∷ ys) at x
        → elim b [ true ↦ Some ((y.0, tree v) ∷ pairs_view ys) | false ↦ option_map (λ (scope : Scope). (y.0, tree y.1) ∷ scope) (assigned n (tree v) (pairs_view ys)) ] ≡ Some (pairs_view (set (y ∷ ys) at (x.0, v)))
    go true t ih e there h =
        subst (λ a. x ≡ get_or (y ∷ ys) a x → Some ((y.0, tree v) ∷ pairs_view ys) ≡ Some (pairs_view (set (y ∷ ys) a (x.0, v)))) (sym e)
        (λ k. ap (λ (z : List ℕ × Val). Some ((z.0, tree v) ∷ pairs_view ys)) (sym k)) h
    go false t ih e there h =
        let f : at ≡ suc (at_first n ys) = omega (arith, e) in
        subst (λ a. x ≡ get_or (y ∷ ys) a x → option_map (λ (scope : Scope). (y.0, tree y.1) ∷ scope) (assigned n (tree v) (pairs_view ys)) ≡ Some (pairs_view (set (y ∷ ys) a (x.0, v)))) (sym f)
        (λ k. ap (option_map (λ (scope : Scope). (y.0, tree y.1) ∷ scope)) (ih (grind (arith, nat_tests, there)) k)) h

assigned-nowhere : (n : List ℕ) (w : Value) (xs : List (List ℕ × Val)) → is_there n xs ≡ false → assigned n w (pairs_view xs) ≡ None
assigned-nowhere n w [] h = refl
assigned-nowhere n w (y ∷ ys) h = go (bytes_eq y.0 n) refl (assigned-nowhere n w ys) h
  where
    go : (b : Bool) → bytes_eq y.0 n ≡ b → (is_there n ys ≡ false → assigned n w (pairs_view ys) ≡ None)
        → nat_lt (cond (not b) (1 + at_first n ys) 0) (suc (length ys)) ≡ false
        → ◌≡◌ {A = Option Scope} (elim b [ true ↦ Some ((y.0, w) ∷ pairs_view ys) | false ↦ option_map (λ (scope : Scope). (y.0, tree y.1) ∷ scope) (assigned n w (pairs_view ys)) ]) None
    go true t ih k = (grind (arith, nat_tests, k))
    go false t ih k = ap (option_map (λ (scope : Scope). (y.0, tree y.1) ∷ scope)) (ih (grind (arith, nat_tests, k)))

by_place : (b : Bool) (at : ℕ) → cond b (Some at) None ≡ None → b ≡ false
by_place true at h = cc
by_place false at h = refl

in_place : (b : Bool) (k at : ℕ) → Some at ≡ cond b (Some k) None → (b ≡ true) × (at ≡ k)
in_place true k at e = (refl, cc)
in_place false k at e = cc

-- the same by the place that a search gives
pub assigned-set : (n : List ℕ) (v : Val) (xs : List (List ℕ × Val)) (x : List ℕ × Val) (at : ℕ) → Some at ≡ position (λ (p : List ℕ × Val). bytes_eq p.0 n) xs
    → x ≡ get_or xs at x → assigned n (tree v) (pairs_view xs) ≡ Some (pairs_view (set xs at (x.0, v)))
assigned-set n v xs x at e h =
    let found = in_place (is_there n xs) (at_first n xs) at e in
    assigned-there n v xs x at found.1 found.0 h

-- where the name doesn't stand, nothing is assigned
pub assigned-none : (n : List ℕ) (w : Value) (xs : List (List ℕ × Val)) → position (λ (p : List ℕ × Val). bytes_eq p.0 n) xs ≡ None → assigned n w (pairs_view xs) ≡ None
assigned-none n w xs h = assigned-nowhere n w xs (by_place (is_there n xs) _ h)

-- without as many values there are no variables
pub unbound : (params : List Named) (vs : List Val) → (length params ≡ length vs → ⊥) → bound_to params (map tree vs) ≡ None
unbound [] [] h = let no : ⊥ = h refl in elim no [ ]
unbound [] (v ∷ vs) h = refl
unbound (x ∷ xs) [] h = refl
unbound (x ∷ xs) (v ∷ vs) h = ap (option_map (λ (scope : Scope). (x.text, tree v) ∷ scope)) (unbound xs vs (λ e. h (ap suc e)))

-- one parameter more is bound to the next value
pub bound-next : (so_far : List (List ℕ × Val)) (x : Named) (xs : List Named) (v : Val) (vs : List Val)
    → option_map (λ (rest : Scope). pairs_view (so_far ++ (x.text, v) ∷ []) ++ rest) (bound_to xs (map tree vs)) ≡ option_map (λ (rest : Scope). pairs_view so_far ++ rest) (bound_to (x ∷ xs) (map tree (v ∷ vs)))
bound-next so_far x xs v vs = go (bound_to xs (map tree vs))
  where
    go : (o : Option Scope) → option_map (λ (rest : Scope). pairs_view (so_far ++ (x.text, v) ∷ []) ++ rest) o ≡ option_map (λ (rest : Scope). pairs_view so_far ++ rest) (option_map (λ (scope : Scope). (x.text, tree v) ∷ scope) o)
    go None = refl
    go (Some s) = ap Some (ap (λ l. l ++ s) (map-append (λ (p : List ℕ × Val). (p.0, tree p.1)) so_far ((x.text, v) ∷ [])) ∙ append_assoc (pairs_view so_far) ((x.text, tree v) ∷ []) s)

-- at first nothing is bound
pub bound-first : (so_far : List (List ℕ × Val)) (o : Option Scope) → so_far ≡ [] → option_map (λ (rest : Scope). pairs_view so_far ++ rest) o ≡ o
bound-first so_far None e = refl
bound-first so_far (Some s) e = ap (λ (l : List (List ℕ × Val)). Some (pairs_view l ++ s)) e

pub bound-step : (params : List Named) (i : ℕ) (x : Named) → i < length params → x ≡ get_or params i x
    → (before after : List (List ℕ × Val)) (values rest : List Val) (v : Val) → v ≡ get_or values 0 v → rest ≡ drop 1 values
    → length (drop i params) ≡ length values → after ≡ before ++ (x.text, v) ∷ [] → (all : Option Scope)
    → option_map (λ (more : Scope). pairs_view before ++ more) (bound_to (drop i params) (map tree values)) ≡ all
    → (length (drop (i + 1) params) ≡ length rest) × (option_map (λ (more : Scope). pairs_view after ++ more) (bound_to (drop (i + 1) params) (map tree rest)) ≡ all)
bound-step params i x below is before after [] rest v v_is rest_is even after_is all h =
    let e : suc (length (drop (i + 1) params)) ≡ 0 = sym (ap length (drop_more params i x below)) ∙ even in
    let no : ⊥ = omega (arith, e) in elim no [ ]
bound-step params i x below is before after (w ∷ ws) rest v v_is rest_is even after_is all h =
    let left : List Named = drop (i + 1) params in
    let d : drop i params ≡ x ∷ left = drop_more params i x below ∙ ap (λ y. y ∷ left) (sym is) in
    let e : suc (length left) ≡ suc (length ws) = sym (ap length d) ∙ even in
    let f : length rest ≡ length ws = ap length rest_is in (
      omega (arith, e, f),
      ap (λ (a : List (List ℕ × Val)). option_map (λ (more : Scope). pairs_view a ++ more) (bound_to left (map tree rest))) after_is
          ∙ ap (λ (r : List Val). option_map (λ (more : Scope). pairs_view (before ++ (x.text, v) ∷ []) ++ more) (bound_to left (map tree r))) rest_is
          ∙ bound-next before x left v ws
          ∙ ap (λ (u : Val). option_map (λ (more : Scope). pairs_view before ++ more) (bound_to (x ∷ left) (map tree (u ∷ ws)))) v_is
          ∙ ap (λ (l : List Named). option_map (λ (more : Scope). pairs_view before ++ more) (bound_to l (map tree (w ∷ ws)))) (sym d)
          ∙ h,
    )

-- in the end no parameter is left, and no value
pub bound-last : (so_far : List (List ℕ × Val)) (params : List Named) (values : List Val) (all : Option Scope) → params ≡ [] → length params ≡ length values
    → option_map (λ (more : Scope). pairs_view so_far ++ more) (bound_to params (map tree values)) ≡ all → Some (pairs_view so_far) ≡ all
bound-last so_far [] [] all e even h = ap Some (sym (append-nil (pairs_view so_far))) ∙ h
bound-last so_far [] (v ∷ vs) all e even h = cc
bound-last so_far (x ∷ xs) values all e even h = cc
