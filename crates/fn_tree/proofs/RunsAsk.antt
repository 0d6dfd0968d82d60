-- Whole runs ask only for what is there.
use Rattle.std.proofs.Common.{◌≡◌, ℕ, zero, suc, ◌&&◌, Bool, true, false, cond, List, [], ◌∷◌, ◌++◌, Option, Some, None, refl, sym, subst, arith}
use Rattle.std.specs.Prelude.{nat_le, codes}
use Rattle.std.specs.Str.{bytes_eq}
use Rattle.cv_values.specs.Sizes.{size_of}
use Rattle.cv_values.specs.Value.{Value}
use Rattle.cv_keys.specs.declared.schema.Schema.{Schema}
use Rattle.fn_tree.proofs.ActionsAsk.{Keeps}
use Rattle.fn_tree.proofs.BodiesAsk.{Helped, function_keeps}
use Rattle.fn_tree.specs.AsksThere.{AsksThere, RunsAskThere}
use Rattle.fn_tree.specs.Actions.{Counts, nothing_used, Meaning, Site}
use Rattle.fn_tree.specs.Course.{gives, failed, done}
use Rattle.fn_tree.specs.Functions.{function_means, is_kind, found_in, arguments_for, replied, kind_of, limits_of, began, started}
use Rattle.fn_tree.specs.Names.{at_name}
use Rattle.fn_tree.specs.Schemas.{schema_of}
use Rattle.fn_tree.specs.SyntaxTree.{FunctionTree, TableTree}
use Rattle.fn_tree.specs.declared.syntax.Kind.{Kind}
use Rattle.fn_tree.specs.declared.syntax.Kind.TheVariants.{Helper}
use Rattle.fn_tree.specs.declared.syntax.Named.{Named}
use Rattle.fn_tree.proofs.DocumentLemmas.{some_same, some_none}
use Rattle.fn_tree.specs.declared.start.Origin.{Origin}

-- a name at the end of a list is found where it isn't before
at_name-end : (P : Meaning → Type 0) (h : List ℕ) (helpers : List (List ℕ × Meaning)) (p : List ℕ × Meaning) →
    ((f : Meaning) → at_name h helpers ≡ Some f → P f) → P p.1 → (f : Meaning) → at_name h (helpers ++ p ∷ []) ≡ Some f → P f
at_name-end P h [] p before last f e = go (bytes_eq p.0 h) e
  where
    go : (b : Bool) → cond b (Some p.1) None ≡ Some f → P f
    go true q = subst P (some_same p.1 f q) last
    go false q = absurd (some_none f (sym q))
at_name-end P h (q ∷ helpers) p before last f e = go (bytes_eq q.0 h) (at_name-end P h helpers p) before e
  where
    go : (b : Bool) → (((g : Meaning) → at_name h helpers ≡ Some g → P g) → P p.1 → (g : Meaning) → at_name h (helpers ++ p ∷ []) ≡ Some g → P g)
        → ((g : Meaning) → cond b (Some q.1) (at_name h helpers) ≡ Some g → P g)
        → cond b (Some q.1) (at_name h (helpers ++ p ∷ [])) ≡ Some f → P f
    go true ih has k = has f k
    go false ih has k = ih has last f k

abbrev with_helper : Site → FunctionTree → Site
with_helper site f = record site { helpers = site.helpers ++ (f.udf, function_means site f) ∷ [] }

helped_more : (site : Site) (f : FunctionTree) → Helped site → Helped (with_helper site f)
helped_more site f helped h g e vs =
    at_name-end (λ k. Keeps site.schema (k vs)) h site.helpers (f.udf, function_means site f)
    (λ k p. helped h k p vs) (function_keeps site helped f vs) g e

found_keeps : (site : Site) → Helped site → (kind : Kind) (udf : List ℕ) (fs : List FunctionTree) (found : List Named × Meaning) →
    found_in kind udf site fs ≡ Some found → (vs : List Value) → Keeps site.schema (found.1 vs)
found_keeps site helped kind udf [] found e vs = absurd (some_none found (sym e))
found_keeps site helped kind udf (f ∷ fs) found e vs =
    go (is_kind kind f.kind && bytes_eq f.udf udf) (is_kind f.kind Helper)
    (found_keeps (with_helper site f) (helped_more site f helped) kind udf fs found) (found_keeps site helped kind udf fs found) e
  where
    go : (b c : Bool) → (found_in kind udf (with_helper site f) fs ≡ Some found → (vs : List Value) → Keeps site.schema (found.1 vs))
        → (found_in kind udf site fs ≡ Some found → (vs : List Value) → Keeps site.schema (found.1 vs))
        → cond b (Some (f.params, function_means site f)) (found_in kind udf (cond c (with_helper site f) site) fs) ≡ Some found → Keeps site.schema (found.1 vs)
    go true c ih ih' p = subst (λ (k : List Named × Meaning). Keeps site.schema (k.1 vs)) (some_same (f.params, function_means site f) found p) (function_keeps site helped f vs)
    go false true ih ih' p = ih p vs
    go false false ih ih' p = ih' p vs

reply_asks : (schema : Schema) (site : Site) (v : Value) (c : Counts) → AsksThere schema (replied site v c)
reply_asks schema site v c = go (nat_le (size_of v) site.limits.reply)
  where
    go : (b : Bool) → AsksThere schema (elim b [
      | true ↦ done (record { reply = gives v; cost = c.cost })
      | false ↦ done (record { reply = failed (codes "TooLarge"); cost = c.cost })
    ])
    go true = tt
    go false = tt

pub runs_ask_there : RunsAskThere
runs_ask_there m s = start (found_in (kind_of s.origin) s.udf site m.functions) refl
  where
    site : Site
    site = record { schema = schema_of m.tables; limits = limits_of s.origin; origin = s.origin; helpers = [] }

    begin : (f : Meaning) → ((vs : List Value) → Keeps (schema_of m.tables) (f vs)) → (x : Option (List Value)) → AsksThere (schema_of m.tables) (began site f x)
    begin f k None = tt
    begin f k (Some vs) = (k vs).by (replied site) (reply_asks (schema_of m.tables) site) nothing_used

    start : (x : Option (List Named × Meaning)) → found_in (kind_of s.origin) s.udf site m.functions ≡ x → AsksThere (schema_of m.tables) (started site s.args x)
    start None e = tt
    start (Some f) e = begin f.1 (found_keeps site (λ h g p. absurd (some_none g (sym p))) (kind_of s.origin) s.udf m.functions f e) (arguments_for f.0 s.args)
