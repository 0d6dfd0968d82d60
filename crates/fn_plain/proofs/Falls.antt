-- What is held is smaller, and so are the functions before a number.
use Rattle.std.proofs.Common.{◌≡◌, ◌<◌, ◌≤◌, ℕ, zero, suc, ◌+◌, List, [], ◌∷◌, map, length, get_or, refl, ap, ◌∙◌, arith}
use Rattle.std.specs.Prelude.{Option, Some, None, slice_get}
use Rattle.fn_tree.specs.SyntaxTree.{Expr, Stmt, FunctionTree}
use Rattle.fn_tree.specs.SyntaxViews.{BoundView, exprs_of, entries_of, bounds_of, stmts_of, function_view}
use Rattle.fn_tree.specs.declared.syntax.Function.{Function}
use Rattle.fn_tree.specs.declared.syntax.Named.{Named}
use Rattle.fn_plain.specs.Sizes.{expr_size, exprs_size, entries_size, bounds_size, stmt_size, stmts_size, size_before}

pub expr_falls : (es : List Expr) (i : ℕ) (d : Expr) → i < length es → expr_size (get_or es i d) < exprs_size (exprs_of es)
expr_falls [] i d h = absurd (omega arith)
expr_falls (e ∷ es) zero d h = omega arith
expr_falls (e ∷ es) (suc i) d h = omega (arith, expr_falls es i d (omega arith))

pub entry_falls : (es : List (Named × Expr)) (i : ℕ) (d : Named × Expr) → i < length es → expr_size (get_or es i d).1 < entries_size (entries_of es)
entry_falls [] i d h = absurd (omega arith)
entry_falls (e ∷ es) zero d h = omega arith
entry_falls (e ∷ es) (suc i) d h = omega (arith, entry_falls es i d (omega arith))

pub bound_falls : (bs : List BoundView) (i : ℕ) (d : BoundView) → i < length bs → expr_size (get_or bs i d).2 < bounds_size (bounds_of bs)
bound_falls [] i d h = absurd (omega arith)
bound_falls (b ∷ bs) zero d h = omega arith
bound_falls (b ∷ bs) (suc i) d h = omega (arith, bound_falls bs i d (omega arith))

pub stmt_falls : (ss : List Stmt) (i : ℕ) (d : Stmt) → i < length ss → stmt_size (get_or ss i d) < stmts_size (stmts_of ss)
stmt_falls [] i d h = absurd (omega arith)
stmt_falls (s ∷ ss) zero d h = omega arith
stmt_falls (s ∷ ss) (suc i) d h = omega (arith, stmt_falls ss i d (omega arith))

none_before : (fs : List FunctionTree) → size_before fs 0 ≡ 0
none_before [] = refl
none_before (f ∷ fs) = refl

pub size_after : (fs : List FunctionTree) (n : ℕ) (f : FunctionTree) → slice_get fs n ≡ Some f → size_before fs (suc n) ≡ size_before fs n + stmts_size f.body + 3
size_after [] n f h = cc
size_after (g ∷ fs) zero f h = let e : g ≡ f = cc in rw e (omega (arith, none_before fs))
size_after (g ∷ fs) (suc n) f h = omega (arith, size_after fs n f h)

pub size_rises : (fs : List FunctionTree) (n m : ℕ) → n ≤ m → size_before fs n ≤ size_before fs m
size_rises [] n m h = omega arith
size_rises (f ∷ fs) zero m h = omega arith
size_rises (f ∷ fs) (suc n) zero h = absurd (omega arith)
size_rises (f ∷ fs) (suc n) (suc m) h = omega (arith, size_rises fs n m (omega arith))

-- a function that is there
pub got : (fs : List Function) (n : ℕ) → n < length fs → (f : FunctionTree) × (slice_get (map function_view fs) n ≡ Some f)
got [] n h = absurd (omega arith)
got (f ∷ fs) zero h = (function_view f, refl)
got (f ∷ fs) (suc n) h = got fs n (omega arith)

-- an item of a list is smaller than the list
pub item_falls : {X : Type 0} (size : X → ℕ) (total : List X → ℕ) → ((z : X) (zs : List X) → total (z ∷ zs) ≡ size z + total zs + 1) → (xs : List X) (i : ℕ) (y : X) → i < length xs → y ≡ get_or xs i y → size y < total xs
item_falls size total step [] i y h e = absurd (omega arith)
item_falls size total step (z ∷ zs) zero y h e = omega (arith, step z zs, ap size e)
item_falls size total step (z ∷ zs) (suc i) y h e = omega (arith, step z zs, item_falls size total step zs i y (omega arith) e)

pub same_function : (fs : List Function) (n : ℕ) (g : Function) (f : FunctionTree) → n < length fs → g ≡ get_or fs n g → slice_get (map function_view fs) n ≡ Some f → function_view g ≡ f
same_function [] n g f h e k = absurd (omega arith)
same_function (z ∷ zs) zero g f h e k = let q : function_view z ≡ f = cc in ap function_view e ∙ q
same_function (z ∷ zs) (suc n) g f h e k = same_function zs n g f (omega arith) e k
