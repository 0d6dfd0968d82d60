-- Helpers by their names.
use Rattle.std.proofs.Common.{◌≡◌, ◌∙◌, ◌<◌, ◌≤◌, ℕ, zero, suc, ◌+◌, Bool, true, false, ◌&&◌, length, get_or, List, [], ◌∷◌, ◌++◌, map, take, cond, refl, sym, ap, subst, arith, add-one}
use Rattle.std.specs.Prelude.{Option, Some, None, slice_get}
use Rattle.std.specs.Str.{bytes_eq}
use Rattle.fn_tree.specs.Actions.{Meaning, Site}
use Rattle.fn_tree.specs.Functions.{seen_after, is_kind, function_means}
use Rattle.fn_tree.specs.Names.{at_name}
use Rattle.fn_tree.specs.SyntaxTree.{FunctionTree}
use Rattle.fn_tree.specs.SyntaxViews.{function_view}
use Rattle.fn_tree.specs.declared.syntax.Function.{Function}
use Rattle.fn_tree.specs.declared.syntax.Kind.TheVariants.{Helper}
use Rattle.fn_plain.specs.States.{site_after, first_site, site_at}
use Rattle.fn_plain.specs.declared.context.Context.{Context}

-- ---- a name in a list

found_stays : {A : Type 0} (a : A) (b : Bool) (o : Option A) (u v : Option A) → (u ≡ Some a → v ≡ Some a) → cond b o u ≡ Some a → cond b o v ≡ Some a
found_stays a true o u v f h = h
found_stays a false o u v f h = f h

name_stays : {A : Type 0} (x : List ℕ) (ps qs : List (List ℕ × A)) (a : A) → at_name x ps ≡ Some a → at_name x (ps ++ qs) ≡ Some a
name_stays x [] qs a h = cc
name_stays x (p ∷ ps) qs a h = found_stays a (bytes_eq p.0 x) (Some p.1) (at_name x ps) (at_name x (ps ++ qs)) (name_stays x ps qs a) h

not_found : {A : Type 0} (b : Bool) (a : A) (u v w : Option A) → (u ≡ None → v ≡ w) → cond b (Some a) u ≡ None → cond b (Some a) v ≡ w
not_found true a u v w f h = cc
not_found false a u v w f h = f h

name_added : {A : Type 0} (x : List ℕ) (ps : List (List ℕ × A)) (k : List ℕ) (a : A) → at_name x ps ≡ None → at_name x (ps ++ (k, a) ∷ []) ≡ cond (bytes_eq k x) (Some a) None
name_added x [] k a h = refl
name_added x (p ∷ ps) k a h = not_found (bytes_eq p.0 x) p.1 (at_name x ps) (at_name x (ps ++ (k, a) ∷ [])) (cond (bytes_eq k x) (Some a) None) (name_added x ps k a) h

-- ---- the helpers of sites

stays_seen : (x : List ℕ) (m : Meaning) (site : Site) (f : FunctionTree) → at_name x site.helpers ≡ Some m → at_name x (seen_after site f).helpers ≡ Some m
stays_seen x m site f h = go (is_kind f.kind Helper)
  where
    go : (b : Bool) → at_name x (cond b (record site { helpers = site.helpers ++ (f.udf, function_means site f) ∷ [] }) site).helpers ≡ Some m
    go true = name_stays x site.helpers ((f.udf, function_means site f) ∷ []) m h
    go false = h

stays_after : (x : List ℕ) (m : Meaning) (site : Site) (fs : List FunctionTree) → at_name x site.helpers ≡ Some m → at_name x (site_after site fs).helpers ≡ Some m
stays_after x m site [] h = h
stays_after x m site (f ∷ fs) h = stays_after x m (seen_after site f) fs (stays_seen x m site f h)

stays_until : (x : List ℕ) (m : Meaning) (site : Site) (fs : List FunctionTree) (i j : ℕ) → i ≤ j → at_name x (site_after site (take i fs)).helpers ≡ Some m → at_name x (site_after site (take j fs)).helpers ≡ Some m
stays_until x m site fs zero j w h = stays_after x m site (take j fs) h
stays_until x m site fs (suc i) zero w h = absurd (omega arith)
stays_until x m site [] (suc i) (suc j) w h = h
stays_until x m site (f ∷ fs) (suc i) (suc j) w h = stays_until x m (seen_after site f) fs i j (omega arith) h

one_more : (site : Site) (fs : List FunctionTree) (i : ℕ) (f : FunctionTree) → slice_get fs i ≡ Some f → site_after site (take (suc i) fs) ≡ seen_after (site_after site (take i fs)) f
one_more site [] i f h = cc
one_more site (g ∷ fs) zero f h = let e : g ≡ f = cc in ap (λ (u : FunctionTree). seen_after site u) e
one_more site (g ∷ fs) (suc i) f h = one_more (seen_after site g) fs i f h

pub next_site : (c : Context) (i : ℕ) (f : FunctionTree) → slice_get (map function_view c.functions.now) i ≡ Some f → site_at c (i + 1) ≡ seen_after (site_at c i) f
next_site c i f h = ap (site_at c) (add-one i) ∙ one_more (first_site c) (map function_view c.functions.now) i f h

seen_name : (x : List ℕ) (site : Site) (f : FunctionTree) → at_name x site.helpers ≡ None → at_name x (seen_after site f).helpers ≡ cond (is_kind f.kind Helper && bytes_eq f.udf x) (Some (function_means site f)) None
seen_name x site f none = go (is_kind f.kind Helper)
  where
    go : (b : Bool) → at_name x (cond b (record site { helpers = site.helpers ++ (f.udf, function_means site f) ∷ [] }) site).helpers ≡ cond (b && bytes_eq f.udf x) (Some (function_means site f)) None
    go true = name_added x site.helpers f.udf (function_means site f) none
    go false = none

-- where there is no helper of a name before a function, that is the first, or there is still none behind it
pub name_next : (c : Context) (x : List ℕ) (i : ℕ) (f : FunctionTree) (b : Bool) → slice_get (map function_view c.functions.now) i ≡ Some f → (is_kind f.kind Helper && bytes_eq f.udf x) ≡ b →
    at_name x (site_at c i).helpers ≡ None → at_name x (site_at c (i + 1)).helpers ≡ cond b (Some (function_means (site_at c i) f)) None
name_next c x i f b h e none =
    ap (λ (s : Site). at_name x s.helpers) (next_site c i f h) ∙ seen_name x (site_at c i) f none ∙ ap (λ z. cond z (Some (function_means (site_at c i) f)) None) e

pub helper_found : (c : Context) (x : List ℕ) (i seen : ℕ) (f : FunctionTree) → slice_get (map function_view c.functions.now) i ≡ Some f → i + 1 ≤ seen → (is_kind f.kind Helper && bytes_eq f.udf x) ≡ true →
    at_name x (site_at c i).helpers ≡ None → at_name x (site_at c seen).helpers ≡ Some (function_means (site_at c i) f)
helper_found c x i seen f h w e none =
    stays_until x (function_means (site_at c i) f) (first_site c) (map function_view c.functions.now) (i + 1) seen w (name_next c x i f true h e none)

-- the function of a number
pub at_number : (fs : List Function) (i : ℕ) (g : Function) → i < length fs → slice_get (map function_view fs) i ≡ Some (function_view (get_or fs i g))
at_number [] i g h = absurd (omega arith)
at_number (f ∷ fs) zero g h = refl
at_number (f ∷ fs) (suc i) g h = at_number fs i g (omega arith)
