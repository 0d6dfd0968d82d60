-- The table at the start keeps the rule.
use Rattle.std.proofs.Common.{◌≡◌, ◌≢◌, ℕ, zero, suc, List, [], ◌∷◌, length, sym, refl, ap, ◌∙◌, subst, inl, Some, Option}
use mathlib.Core.Option.{some, some-ne-none, some-injective}
use lib.ListN.{get_elem?}
use Rattle.atomic_table.specs.Table.{State, opening}
use Rattle.fn_tree.specs.History.{Entry}
use Rattle.fn_tree.specs.SyntaxTree.{ModuleTree}
use Rattle.turn_lock.specs.Views.{View}
use Rattle.turn_lock.specs.declared.view.Stage.TheVariants.{Rest, Spent}
use Rattle.turn_lock.specs.Rule.{Fits, Kept, Keeps, Quiet, beginner}
use Rattle.turn_lock.proofs.Prefixes.{prefix_self}

only : (P : View → Type 0) (v : View) → P v → (j : ℕ) (u : View) → get_elem? (v ∷ []) j ≡ some u → P u
only P v p zero u e = subst P (some-injective v u e) p
only P v p (suc j) u e = absurd (some-ne-none u (sym e))

module _ {T : Type 0} (history : T → List Entry) (program : T → ModuleTree) where
  opens_at : (x : T) (n : ℕ) → n ≡ length (history x) → Kept history program (program x) (opening (0 ∷ n ∷ []) (Some x ∷ []) (beginner (history x)))
  opens_at x n long =
      let v = beginner (history x) in record {
        log = history x;
        each = only (Fits (history x)) v record { begins = prefix_self (history x); stands = tt; rises = tt; olds = tt };
        longest = (0, v, refl, refl, λ e. cc);
        apart = λ i j a b ea eb ne p ka kb. only (λ u. Keeps p u.own → ⊥) v (λ k. k) i a ea ka;
        slot = inl record { words = ap (λ (k : ℕ). 0 ∷ k ∷ []) long; rest = only (λ u. Quiet u.stage) v tt; home = (x, refl, refl, refl) };
      }

  pub opens : (x y : T) (n : ℕ) (items : List (Option T)) → y ≡ x → n ≡ length (history x) → items ≡ Some x ∷ [] → Kept history program (program y) (opening (0 ∷ n ∷ []) items (beginner (history y)))
  opens x y n items same long is =
      subst (λ (z : T). Kept history program (program z) (opening (0 ∷ n ∷ []) items (beginner (history z)))) (sym same)
      (subst (λ (l : List (Option T)). Kept history program (program x) (opening (0 ∷ n ∷ []) l (beginner (history x)))) (sym is) (opens_at x n long))
