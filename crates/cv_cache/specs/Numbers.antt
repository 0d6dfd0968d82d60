-- The entries of a cache by the numbers that own their ranges.
use Rattle.std.specs.Prelude.{ℕ, ◌==◌, not, cond, List, [], ◌∷◌, map, filter, Option, Some, None}
use Rattle.fn_tree.specs.declared.stop.Query.{Query}
use Rattle.cv_cache.specs.Recent.{Held}

-- what the first entry of a number gives
abbrev pub of_number : {X : Type 0} → (Held → X) → X → List Held → ℕ → X
of_number f none [] n = none
of_number f none (e ∷ es) n = cond (n == e.1.owner) (f e) (of_number f none es n)

-- the query that has a number
abbrev pub query_of : List Held → ℕ → Option Query
query_of es n = of_number (λ e. Some e.0) None es n

-- the entries of other numbers
abbrev pub without_number : ℕ → List Held → List Held
without_number n es = filter (λ e. not (n == e.1.owner)) es

abbrev pub numbers_of : List Held → List ℕ
numbers_of es = map (λ e. e.1.owner) es
