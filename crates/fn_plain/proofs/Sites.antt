-- All sites of a run have its schema, its limits and its origin.
use Rattle.std.proofs.Common.{◌≡◌, ◌∙◌, ℕ, Bool, true, false, List, [], ◌∷◌, ◌++◌, map, take, cond, refl, ap}
use Rattle.cv_keys.specs.declared.schema.Schema.{Schema}
use Rattle.fn_tree.specs.Actions.{Limits, Meaning, Site}
use Rattle.fn_tree.specs.Functions.{seen_after, is_kind, function_means}
use Rattle.fn_tree.specs.SyntaxTree.{FunctionTree}
use Rattle.fn_tree.specs.SyntaxViews.{function_view}
use Rattle.fn_tree.specs.declared.syntax.Kind.TheVariants.{Helper}
use Rattle.fn_tree.specs.declared.start.Origin.{Origin}
use Rattle.std.specs.Prelude.{Option}
use Rattle.fn_plain.specs.States.{limits_of, site_after, first_site, site_at}
use Rattle.fn_plain.specs.declared.context.Context.{Context}

with_helpers : (b : Bool) (site : Site) (hs : List (List ℕ × Meaning)) → (R : Site → Type 0) → R site → R (record site { helpers = hs }) → R (cond b (record site { helpers = hs }) site)
with_helpers true site hs R h k = k
with_helpers false site hs R h k = h

-- two sites differ in helpers alone
record Alike (a b : Site) : Type 0 where
  pub schema : a.schema ≡ b.schema
  pub limits : a.limits ≡ b.limits
  pub origin : a.origin ≡ b.origin

alike_after : (fs : List FunctionTree) (a b : Site) → Alike a b → Alike (site_after a fs) b
alike_after [] a b h = h
alike_after (f ∷ fs) a b h =
    alike_after fs (seen_after a f) b
    (with_helpers (is_kind f.kind Helper) a (a.helpers ++ (f.udf, function_means a f) ∷ []) (λ s. Alike s b) h (record { schema = h.schema; limits = h.limits; origin = h.origin }))

alike_at : (c : Context) (n : ℕ) → Alike (site_at c n) (first_site c)
alike_at c n = alike_after (take n (map function_view c.functions.now)) (first_site c) (first_site c) (record { schema = refl; limits = refl; origin = refl })

pub site_schema : (c : Context) (n : ℕ) → (site_at c n).schema ≡ c.schema.now
site_schema c n = (alike_at c n).schema

pub site_limits : (c : Context) (n : ℕ) → (site_at c n).limits ≡ limits_of c.limits
site_limits c n = (alike_at c n).limits

pub site_origin : (c : Context) (n : ℕ) → (site_at c n).origin ≡ c.origin
site_origin c n = (alike_at c n).origin
