-- The code of a module means it: the start, and the functions in order.
use Rattle.std.proofs.Common.{◌≡◌, ℕ, suc, eq-eqb, ◌+◌, Bool, true, false, cond, ◌&&◌, ◌==◌, List, [], ◌∷◌, ◌++◌, length, map, Option, Some, None, refl, sym, ap, ap₂, ◌∙◌, subst, option_and_then, option_map}
use Rattle.std.proofs.lemmas.Option.{none-some, same_Some}
use Rattle.std.specs.BTreeMap.{is_at}
use Rattle.std.specs.Map.{lookup}
use Rattle.std.specs.Prelude.{if◌then◌else◌, nat_le, codes}
use Rattle.std.specs.Str.{bytes_eq}
use Rattle.cv_values.specs.Order.{text_cmp}
use Rattle.cv_values.specs.Sizes.{size_of}
use Rattle.cv_values.specs.Value.{Value}
use Rattle.fn_tree.specs.Actions.{Meaning, Site, nothing_used}
use Rattle.fn_tree.specs.Course.{done, gives, failed}
use Rattle.fn_tree.specs.Functions.{is_kind, function_means, seen_after, found_in, values_for, arguments_for, replied, began, started, kind_of}
use Rattle.fn_tree.specs.Schemas.{text_of}
use Rattle.fn_tree.specs.SyntaxTree.{FunctionTree}
use Rattle.fn_tree.specs.declared.syntax.Kind.{Kind}
use Rattle.fn_tree.specs.declared.syntax.Kind.TheVariants.{Helper}
use Rattle.fn_tree.specs.declared.syntax.Named.{Named}
use Rattle.fn_code.specs.CodeMeans.{Follows, values_of, arguments_of, entry_of, begins_at, begins, terms_of, CodesMean}
use Rattle.fn_code.specs.Coding.{Known, function_code, known_behind, functions_code, entries_at, code_of}
use Rattle.fn_code.specs.States.{ends, fails}
use Rattle.fn_code.specs.Steps.{Terms}
use Rattle.fn_code.specs.declared.code.Code.{Code}
use Rattle.fn_code.specs.declared.known.Callee.{Callee}
use Rattle.fn_code.proofs.Calls.{AreCodes, IsCode, Returns, entered}
use Rattle.fn_code.proofs.Expressions.{knowing}
use Rattle.fn_code.proofs.Functions.{codes_more, function_follows}
use Rattle.fn_code.proofs.Places.{Stands, stands_split, stands_length, stands_whole, site_of}
use Rattle.fn_code.proofs.Slots.{length_map}

-- ---- arguments

values_same : (params : List Named) (args : List (List ℕ × Value)) → values_for params args ≡ values_of (map text_of params) args
values_same [] args = refl
values_same (x ∷ params) args =
    ap (λ (rest : Option (List Value)). option_and_then (λ (v : Value). option_map (λ (vs : List Value). v ∷ vs) rest) (lookup (is_at (text_cmp x.text)) args)) (values_same params args)

arguments_same : (params : List Named) (args : List (List ℕ × Value)) → arguments_for params args ≡ arguments_of (map text_of params) args
arguments_same params args =
    ap₂ (λ (n : ℕ) (rest : Option (List Value)). if n == length args then rest else None) (sym (length_map text_of params)) (values_same params args)

-- there are as many values as parameters
values_many : (params : List Named) (args : List (List ℕ × Value)) (vs : List Value) → values_for params args ≡ Some vs → length params ≡ length vs
values_many [] args vs e = ap (λ (l : List Value). length l) (same_Some [] vs e)
values_many (x ∷ params) args vs e = go (lookup (is_at (text_cmp x.text)) args) (values_for params args) (values_many params args) e
  where
    go : (a : Option Value) (b : Option (List Value)) → ((ws : List Value) → b ≡ Some ws → length params ≡ length ws) →
        option_and_then (λ (v : Value). option_map (λ (ws : List Value). v ∷ ws) b) a ≡ Some vs → length (x ∷ params) ≡ length vs
    go None b ih e = absurd (none-some vs e)
    go (Some v) None ih e = absurd (none-some vs e)
    go (Some v) (Some ws) ih e = ap (λ n. suc n) (ih ws refl) ∙ ap (λ (l : List Value). length l) (same_Some (v ∷ ws) vs e)

arguments_many : (params : List Named) (args : List (List ℕ × Value)) (vs : List Value) → arguments_for params args ≡ Some vs → length params ≡ length vs
arguments_many params args vs e = go (length params == length args) e
  where
    go : (b : Bool) → (if b then values_for params args else None) ≡ Some vs → length params ≡ length vs
    go true e = values_many params args vs e
    go false e = absurd (none-some vs e)

-- ---- the functions in order

module _ (t : Terms) (code : Code) (args : List (List ℕ × Value)) (kind : Kind) (udf : List ℕ) where
  replied_follows : (helpers : List (List ℕ × Meaning)) → Returns t code [] (replied (site_of t code helpers))
  replied_follows helpers v c = go (nat_le (size_of v) t.limits.reply)
    where
      go : (b : Bool) → Follows t code (elim b [ true ↦ done (record { reply = gives v; cost = c.cost }) | false ↦ done (record { reply = failed (codes "TooLarge"); cost = c.cost }) ])
          (elim b [ true ↦ ends (record { reply = gives v; cost = c.cost }) | false ↦ fails c (codes "TooLarge") ])
      go true = (0, refl)
      go false = (0, refl)

  -- a function that is started
  began_follows : (f : Meaning) (params : List Named) (place : ℕ) →
      ((vs : List Value) → Follows t code (f vs nothing_used (replied (site_of t code []))) (entered place vs [] nothing_used (length params == length vs))) →
      Follows t code (began (site_of t code []) f (arguments_for params args)) (begins_at place (arguments_of (map text_of params) args))
  began_follows f params place means =
      subst (λ (x : Option (List Value)). Follows t code (began (site_of t code []) f (arguments_for params args)) (begins_at place x)) (arguments_same params args)
      (go (arguments_for params args) (arguments_many params args))
    where
      go : (x : Option (List Value)) → ((vs : List Value) → x ≡ Some vs → length params ≡ length vs) → Follows t code (began (site_of t code []) f x) (begins_at place x)
      go None many = (0, refl)
      go (Some vs) many = subst (λ (b : Bool). Follows t code (f vs nothing_used (replied (site_of t code []))) (entered place vs [] nothing_used b)) (eq-eqb (length params) (length vs) (many vs refl)) (means vs)

  abbrev FunctionsFollow : List FunctionTree → Type 0
  FunctionsFollow fs = (helpers : List (List ℕ × Meaning)) (callees : List (List ℕ × Callee)) → AreCodes t code helpers callees → (number place behind last : ℕ) →
      Stands code.instrs place (functions_code (knowing code callees []) number fs) behind → Stands code.entries number (entries_at (knowing code callees []) number place fs) last →
      Follows t code (started (site_of t code []) args (found_in kind udf (site_of t code helpers) fs)) (begins args (entry_of kind udf (entries_at (knowing code callees []) number place fs)))

  -- the functions behind a first one, which may be a helper
  next_follow : (fs : List FunctionTree) → FunctionsFollow fs → (helpers : List (List ℕ × Meaning)) (callees : List (List ℕ × Callee)) → AreCodes t code helpers callees →
      (name : List ℕ) (f : Meaning) (k : Callee) → IsCode t code f k → (b : Bool) → (number place behind last : ℕ) →
      Stands code.instrs place (functions_code (cond b (knowing code (callees ++ (name, k) ∷ []) []) (knowing code callees [])) number fs) behind →
      Stands code.entries number (entries_at (cond b (knowing code (callees ++ (name, k) ∷ []) []) (knowing code callees [])) number place fs) last →
      Follows t code (started (site_of t code []) args (found_in kind udf (cond b (site_of t code (helpers ++ (name, f) ∷ [])) (site_of t code helpers)) fs))
      (begins args (entry_of kind udf (entries_at (cond b (knowing code (callees ++ (name, k) ∷ []) []) (knowing code callees [])) number place fs)))
  next_follow fs means helpers callees helped name f k is true number place behind last h es =
      means (helpers ++ (name, f) ∷ []) (callees ++ (name, k) ∷ []) (codes_more t code helpers callees name f k helped is) number place behind last h es
  next_follow fs means helpers callees helped name f k is false number place behind last h es = means helpers callees helped number place behind last h es

  functions_follow : (fs : List FunctionTree) → FunctionsFollow fs
  functions_follow [] helpers callees helped number place behind last h es = (0, refl)
  functions_follow (f ∷ fs) helpers callees helped number place behind last h es =
      go (is_kind kind f.kind && bytes_eq f.udf udf) (functions_follow fs)
    where
      k : Known
      k = knowing code callees []

      site : Site
      site = site_of t code helpers

      first : (between : ℕ) × Stands code.instrs place (function_code k f) between × Stands code.instrs between (functions_code (known_behind k number f) (number + 1) fs) behind
      first = stands_split code.instrs place (function_code k f) (functions_code (known_behind k number f) (number + 1) fs) behind h

      rest : Stands code.instrs (place + length (function_code k f)) (functions_code (known_behind k number f) (number + 1) fs) behind
      rest = subst (λ (p : ℕ). Stands code.instrs p (functions_code (known_behind k number f) (number + 1) fs) behind) (stands_length code.instrs place (function_code k f) first.0 first.1) first.2

      is : IsCode t code (function_means site f) (record { number = number; params = length f.params })
      is = (record { kind = f.kind; udf = f.udf; params = map text_of f.params; at = place }, es.0, function_follows t code helpers callees helped f place first.0 first.1)

      go : (b : Bool) → FunctionsFollow fs →
          Follows t code (started (site_of t code []) args (cond b (Some (f.params, function_means site f)) (found_in kind udf (seen_after site f) fs)))
          (begins args (cond b (Some (record { kind = f.kind; udf = f.udf; params = map text_of f.params; at = place })) (entry_of kind udf (entries_at (known_behind k number f) (number + 1) (place + length (function_code k f)) fs))))
      go true means = began_follows (function_means site f) f.params place (λ vs. is.2 vs [] (replied (site_of t code [])) nothing_used (replied_follows []))
      go false means = next_follow fs means helpers callees helped f.udf (function_means site f) (record { number = number; params = length f.params }) is (is_kind f.kind Helper)
          (number + 1) (place + length (function_code k f)) behind last rest es.1

pub codes_mean : CodesMean
codes_mean m s =
    let code = code_of m in
    functions_follow (terms_of s) code s.args (kind_of s.origin) s.udf m.functions [] [] tt 0 0 (0 + length code.instrs) (0 + length code.entries) (stands_whole code.instrs) (stands_whole code.entries)
