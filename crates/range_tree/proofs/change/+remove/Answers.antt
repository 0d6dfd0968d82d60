use Rattle.std.proofs.Common.{◌≡◌, sym, ◌∙◌, subst, arith}
use Rattle.range_tree.specs.Avl.{owned, listed}
use Rattle.range_tree.specs.Ranges.{Owned, owned_cmp, IsInOrder}
use Rattle.range_tree.proofs.Inserted.{sorted_front, sorted_back}
use Rattle.range_tree.proofs.Removed.{removed_left, removed_right, removed_here}
use Rattle.range_tree.proofs.change.+remove.Goals as goal

pub remove-l-requires : goal.remove-l-requires
remove-l-requires t c =
    let p = c.in-Some.ensures.parts in let s = subst IsInOrder p.0 c.requires.sorted in let b = p.2 c.requires.balanced in
    (omega (arith, p.1), (sorted_front _ _ s, (b.0, omega (arith, p.1))))

pub remove-r-requires : goal.remove-r-requires
remove-r-requires t c =
    let p = c.in-Some.ensures.parts in let s = subst IsInOrder p.0 c.requires.sorted in let b = p.2 c.requires.balanced in
    (omega (arith, p.1), (sorted_back _ _ _ s, (b.1, omega (arith, p.1))))

pub returns-in-Less-clause-listed : goal.returns-in-Less-clause-listed
returns-in-Less-clause-listed t c =
    let x : Owned = (c.args.i.now, c.args.owner) in let k : Owned = owned c.in-Some.top.value in
    let p = c.in-Some.ensures.parts in let s = subst IsInOrder p.0 c.requires.sorted in
    let same : owned_cmp x k ≡ c.owned_order.result = cc in
    let q = removed_left x (listed c.in-Some.l) k (listed c.in-Some.r) s (same ∙ c.in-Less.is) in
    rw (p.0, c.balance.ensures.listed, c.remove-l.ensures.listed) (sym q.0)

pub returns-in-Less-clause-there : goal.returns-in-Less-clause-there
returns-in-Less-clause-there t c =
    let x : Owned = (c.args.i.now, c.args.owner) in let k : Owned = owned c.in-Some.top.value in
    let p = c.in-Some.ensures.parts in let s = subst IsInOrder p.0 c.requires.sorted in
    let same : owned_cmp x k ≡ c.owned_order.result = cc in
    let q = removed_left x (listed c.in-Some.l) k (listed c.in-Some.r) s (same ∙ c.in-Less.is) in
    rw (p.0, c.remove-l.ensures.there) (sym q.1)

pub returns-in-Greater-clause-listed : goal.returns-in-Greater-clause-listed
returns-in-Greater-clause-listed t c =
    let x : Owned = (c.args.i.now, c.args.owner) in let k : Owned = owned c.in-Some.top.value in
    let p = c.in-Some.ensures.parts in let s = subst IsInOrder p.0 c.requires.sorted in
    let same : owned_cmp x k ≡ c.owned_order.result = cc in
    let q = removed_right x (listed c.in-Some.l) k (listed c.in-Some.r) s (same ∙ c.in-Greater.is) in
    rw (p.0, c.balance-in-Greater.ensures.listed, c.remove-r.ensures.listed) (sym q.0)

pub returns-in-Greater-clause-there : goal.returns-in-Greater-clause-there
returns-in-Greater-clause-there t c =
    let x : Owned = (c.args.i.now, c.args.owner) in let k : Owned = owned c.in-Some.top.value in
    let p = c.in-Some.ensures.parts in let s = subst IsInOrder p.0 c.requires.sorted in
    let same : owned_cmp x k ≡ c.owned_order.result = cc in
    let q = removed_right x (listed c.in-Some.l) k (listed c.in-Some.r) s (same ∙ c.in-Greater.is) in
    rw (p.0, c.remove-r.ensures.there) (sym q.1)

pub returns-in-Equal-clause-listed : goal.returns-in-Equal-clause-listed
returns-in-Equal-clause-listed t c =
    let x : Owned = (c.args.i.now, c.args.owner) in let k : Owned = owned c.in-Some.top.value in
    let p = c.in-Some.ensures.parts in let s = subst IsInOrder p.0 c.requires.sorted in
    let same : owned_cmp x k ≡ c.owned_order.result = cc in
    let q = removed_here x (listed c.in-Some.l) k (listed c.in-Some.r) s (same ∙ c.in-Equal.is) in
    rw (p.0, c.merge.ensures.listed) (sym q.0)

pub returns-in-Equal-clause-node : goal.returns-in-Equal-clause-node
returns-in-Equal-clause-node t c =
    let x : Owned = (c.args.i.now, c.args.owner) in let k : Owned = owned c.in-Some.top.value in
    let p = c.in-Some.ensures.parts in let s = subst IsInOrder p.0 c.requires.sorted in
    let same : owned_cmp x k ≡ c.owned_order.result = cc in
    let q = removed_here x (listed c.in-Some.l) k (listed c.in-Some.r) s (same ∙ c.in-Equal.is) in
    q.2

pub returns-in-Equal-clause-there : goal.returns-in-Equal-clause-there
returns-in-Equal-clause-there t c =
    let x : Owned = (c.args.i.now, c.args.owner) in let k : Owned = owned c.in-Some.top.value in
    let p = c.in-Some.ensures.parts in let s = subst IsInOrder p.0 c.requires.sorted in
    let same : owned_cmp x k ≡ c.owned_order.result = cc in
    let q = removed_here x (listed c.in-Some.l) k (listed c.in-Some.r) s (same ∙ c.in-Equal.is) in
    rw p.0 (sym q.1)
