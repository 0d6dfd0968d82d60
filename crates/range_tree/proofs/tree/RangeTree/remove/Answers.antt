use Rattle.std.proofs.Common.{◌≡◌, ℕ, List, true, false, cond, length, is_some, refl, sym, ap, ◌∙◌, subst, arith}
use Rattle.std.specs.Prelude.{Contains}
use Rattle.range_tree.specs.Avl.{owned, listed}
use Rattle.range_tree.specs.Ranges.{Owned, IsInOrder, IsAbsent, removed, is_there}
use Rattle.range_tree.proofs.Kept.{height_listed}
use Rattle.range_tree.proofs.Removed.{sorted_removed, length_removed, absent, present, gone}
use Rattle.range_tree.proofs.tree.RangeTree.remove.Goals as goal

pub remove-tree-requires-clause-fits : goal.remove-tree-requires-clause-fits
remove-tree-requires-clause-fits c =
    let v = c.self.invariant in let h = height_listed c.self.inside.tree in
    rw c.replace-tree.ensures.value (omega (arith, h, v.2, v.3))

pub invariant_of-self : goal.invariant_of-self
invariant_of-self c =
    let x : Owned = (c.args.interval.now, c.args.owner) in let xs : List Owned = listed c.self.inside.tree in
    let v = c.self.invariant in let e = c.remove-tree.ensures in let same = c.replace-tree.ensures.value in
    let l : listed c.remove-tree.result.0 ≡ removed x xs = rw (e.listed, same) refl in
    let not_there : is_there x xs ≡ false = rw same at (sym e.there ∙ ap is_some c.in-None.is) in
    let n = length_removed x xs in let k : cond {A = ℕ} (is_there x xs) 1 0 ≡ 0 = ap (λ b. cond {A = ℕ} b 1 0) not_there in let m = ap length l in
    rw c.replace-empty.ensures.after (e.balanced, subst IsInOrder (sym l) (sorted_removed x xs v.1), omega (arith, n, k, m, v.2), v.3)

pub invariant_of-self-in-Some : goal.invariant_of-self-in-Some
invariant_of-self-in-Some c =
    let x : Owned = (c.args.interval.now, c.args.owner) in let xs : List Owned = listed c.self.inside.tree in
    let v = c.self.invariant in let e = c.remove-tree.ensures in let same = c.replace-tree.ensures.value in
    let l : listed c.remove-tree.result.0 ≡ removed x xs = rw (e.listed, same) refl in
    let there : is_there x xs ≡ true = rw same at (sym e.there ∙ ap is_some c.in-Some.is) in
    let n = length_removed x xs in let k : cond {A = ℕ} (is_there x xs) 1 0 ≡ 1 = ap (λ b. cond {A = ℕ} b 1 0) there in let m = ap length l in
    rw c.replace-empty.ensures.after (e.balanced, subst IsInOrder (sym l) (sorted_removed x xs v.1), omega (arith, n, k, m, v.2), omega (arith, v.3))

pub returns-in-None-clause-node : goal.returns-in-None-clause-node
returns-in-None-clause-node c =
    let x : Owned = (c.args.interval.now, c.args.owner) in let xs : List Owned = listed c.self.inside.tree in
    let not_there : is_there x xs ≡ false = rw c.replace-tree.ensures.value at (sym c.remove-tree.ensures.there ∙ ap is_some c.in-None.is) in
    subst (IsAbsent x) c.self.view_is (absent x xs not_there)

pub returns-in-Some-clause-node : goal.returns-in-Some-clause-node
returns-in-Some-clause-node c =
    let x : Owned = (c.args.interval.now, c.args.owner) in let xs : List Owned = listed c.self.inside.tree in
    let there : is_there x xs ≡ true = rw c.replace-tree.ensures.value at (sym c.remove-tree.ensures.there ∙ ap is_some c.in-Some.is) in
    let same : owned c.in-Some.node.value ≡ x = rw c.in-Some.is at c.remove-tree.ensures.node in
    let found : Contains c.args.self.now x = subst (λ (ys : List Owned). Contains ys x) c.self.view_is (present x xs there) in
    (same, subst (Contains c.args.self.now) (sym same) found)

pub returns-in-None-clause-gone : goal.returns-in-None-clause-gone
returns-in-None-clause-gone c =
    let x : Owned = (c.args.interval.now, c.args.owner) in let xs : List Owned = listed c.self.inside.tree in
    let l : listed c.remove-tree.result.0 ≡ removed x xs = rw (c.remove-tree.ensures.listed, c.replace-tree.ensures.value) refl in
    rw c.replace-empty.ensures.after (subst (IsAbsent x) (sym l) (gone x xs c.self.invariant.1))

pub returns-in-Some-clause-gone : goal.returns-in-Some-clause-gone
returns-in-Some-clause-gone c =
    let x : Owned = (c.args.interval.now, c.args.owner) in let xs : List Owned = listed c.self.inside.tree in
    let l : listed c.remove-tree.result.0 ≡ removed x xs = rw (c.remove-tree.ensures.listed, c.replace-tree.ensures.value) refl in
    rw c.replace-empty.ensures.after (subst (IsAbsent x) (sym l) (gone x xs c.self.invariant.1))
