-- The run of a call by the function that was found and the values of its parameters.
use Rattle.std.proofs.Common.{◌≡◌, ◌∙◌, ℕ, List, [], take, sym, ap, subst}
use Rattle.std.specs.Prelude.{Option, Some, None, Result, IfOk, option_map, slice_get}
use Rattle.std.proofs.lemmas.Result.{IfOk-weaker}
use Rattle.cv_keys.specs.declared.schema.Schema.{Schema}
use Rattle.cv_values.specs.Value.{Value}
use Rattle.cv_values.specs.declared.memory.Memory.{Memory}
use Rattle.fn_tree.specs.Actions.{Limits, Meaning, Site}
use Rattle.fn_tree.specs.Documents.{Docs}
use Rattle.fn_tree.specs.Functions.{Start, found_in, function_means, arguments_for, started, began, kind_of}
use Rattle.fn_tree.specs.Run.{Run, run_of, run_within, played}
use Rattle.fn_tree.specs.Schemas.{schema_of}
use Rattle.fn_tree.specs.SyntaxTree.{FunctionTree, TableTree}
use Rattle.fn_tree.specs.declared.syntax.Kind.{Kind}
use Rattle.fn_tree.specs.declared.syntax.Named.{Named}
use Rattle.fn_plain.specs.Runs.{IsRun, function_at}
use Rattle.fn_plain.specs.States.{site_after}
use Rattle.fn_plain.specs.declared.runs.PlainRun.{PlainRun}

module _ (limits : Limits) (fs : List FunctionTree) (s : Start) (ds : Docs) where
  abbrev first_of_all : Schema → Site
  first_of_all schema = record { schema = schema; limits = limits; origin = s.origin; helpers = [] }

  -- the run by the function that was found
  abbrev run_by : Schema → Option (List Named × Meaning) → Run
  run_by schema o = run_of ds (played schema ds [] (started (first_of_all schema) s.args o))

  module _ (schema : Schema) (tables : List TableTree) (same : schema ≡ schema_of tables) (kind : Kind) (kind_is : kind ≡ kind_of s.origin) where
    abbrev site : Site
    site = first_of_all schema

    begun-as : (number : Option ℕ) → ((a : Site) → found_in kind s.udf a fs ≡ function_at a fs number) → run_by schema (function_at site fs number) ≡ run_within limits (record { tables = tables; functions = fs }) s ds
    begun-as number found =
        ap (run_by schema) (sym (found site) ∙ ap (λ k. found_in k s.udf site fs) kind_is)
        ∙ ap (λ sc. run_by sc (found_in (kind_of s.origin) s.udf (first_of_all sc) fs)) same

    -- no function was found
    pub unknown : (r : Result PlainRun Memory) → ((a : Site) → found_in kind s.udf a fs ≡ function_at a fs None)
        → IfOk r (λ run. (sc : Schema) → IsRun run (run_by sc None)) → IfOk r (λ run. IsRun run (run_within limits (record { tables = tables; functions = fs }) s ds))
    unknown r found h = IfOk-weaker r _ _ (λ run k. subst (λ (u : Run). IsRun run u) (begun-as None found) (k schema)) h

    module _ (n : ℕ) (f : FunctionTree) (there : slice_get fs n ≡ Some f) (found : (a : Site) → found_in kind s.udf a fs ≡ function_at a fs (Some n)) where
      abbrev run_on : Option (List Value) → Run
      run_on values = run_of ds (played schema ds [] (began site (function_means (site_after site (take n fs)) f) values))

      called-as : (values : Option (List Value)) → values ≡ arguments_for f.params s.args → run_on values ≡ run_within limits (record { tables = tables; functions = fs }) s ds
      called-as values e =
          ap run_on e
          ∙ ap (λ (o : Option FunctionTree). run_by schema (option_map (λ (u : FunctionTree). (u.params, function_means (site_after site (take n fs)) u)) o)) (sym there)
          ∙ begun-as (Some n) found

      -- a function was found, and the values of its parameters, or none
      pub called : (r : Result PlainRun Memory) (values : Option (List Value)) → values ≡ arguments_for f.params s.args
          → IfOk r (λ run. IsRun run (run_on values)) → IfOk r (λ run. IsRun run (run_within limits (record { tables = tables; functions = fs }) s ds))
      called r values e h = IfOk-weaker r _ _ (λ run k. subst (λ (u : Run). IsRun run u) (called-as values e) k) h
