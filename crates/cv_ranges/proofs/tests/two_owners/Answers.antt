use Rattle.std.proofs.Common.{◌≡◌, ◌≢◌, ℕ, List, [], sym, subst, arith}
use Rattle.cv_keys.specs.declared.interval.Interval.{Interval}
use Rattle.range_tree.specs.Ranges.{Owned}
use Rattle.cv_ranges.specs.Held.{HasRead, KeepsOthers}
use Rattle.cv_ranges.proofs.Held.{empty_holds_none}
use Rattle.cv_ranges.proofs.tests.two_owners.Goals as goal

-- of every other owner, what a tree had it has
others_kept : (owner other : ℕ) (is : List Interval) (old new : List Owned) → other ≢ owner → KeepsOthers owner old new → HasRead old other is → HasRead new other is
others_kept owner other is old new apart keeps has i = ((λ c. (has i).0 ((keeps other apart i).0 c)), (λ c. (keeps other apart i).1 ((has i).1 c)))

pub give-requires-2 : goal.give-requires-2
give-requires-2 c =
    let none : HasRead c.new-tree.result 2 [] = subst (λ (ts : List Owned). HasRead ts 2 []) (sym c.new-tree.ensures) (empty_holds_none 2) in
    others_kept 1 2 [] c.new-tree.result c.give.new.tree (λ e. omega arith) c.in_ok-give.ensures.others none

pub returns : goal.returns
returns c =
    others_kept 2 1 c.args.first.now c.give.new.tree c.give-2.new.tree (λ e. omega arith) c.in_ok-give-2.ensures.others c.in_ok-give.ensures.has
