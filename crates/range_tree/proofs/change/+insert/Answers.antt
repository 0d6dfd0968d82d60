use Rattle.std.proofs.Common.{◌≡◌, true, false, sym, ap, ◌∙◌, subst, arith}
use Rattle.std.specs.Ordering.{is_lt}
use Rattle.range_tree.specs.Shape.{height}
use Rattle.range_tree.specs.Avl.{owned, listed}
use Rattle.range_tree.specs.Ranges.{owned_cmp, owned_lt, IsInOrder}
use Rattle.range_tree.proofs.Inserted.{sorted_front, sorted_back, inserted_left, inserted_right, not_less, settles_right}
use Rattle.range_tree.proofs.change.+insert.Goals as goal

pub insert-requires : goal.insert-requires
insert-requires t c =
    let p = c.in-Some.ensures.parts in let s = subst IsInOrder p.0 c.requires.sorted in let b = p.2 c.requires.balanced in
    (omega (arith, p.1), (sorted_front _ _ s, (b.0, omega (arith, p.1))))

pub insert-requires-in_default-owned_order : goal.insert-requires-in_default-owned_order
insert-requires-in_default-owned_order t c =
    let p = c.in-Some.ensures.parts in let s = subst IsInOrder p.0 c.requires.sorted in let b = p.2 c.requires.balanced in
    (omega (arith, p.1), (sorted_back _ _ _ s, (b.1, omega (arith, p.1))))

pub returns-in-Less-clause-listed : goal.returns-in-Less-clause-listed
returns-in-Less-clause-listed t c =
    let p = c.in-Some.ensures.parts in
    let same : owned_cmp (owned c.args.node.value) (owned c.in-Some.top.value) ≡ c.owned_order.result = cc in
    let less : owned_lt (owned c.args.node.value) (owned c.in-Some.top.value) ≡ true = ap is_lt (same ∙ c.in-Less.is) in
    rw (p.0, c.balance.ensures.listed, c.insert.ensures.listed) (sym (inserted_left (owned c.args.node.value) (listed c.in-Some.l) (owned c.in-Some.top.value) (listed c.in-Some.r) less))

pub returns-in_default-owned_order : goal.returns-in_default-owned_order
returns-in_default-owned_order t c =
    let p = c.in-Some.ensures.parts in let s = subst IsInOrder p.0 c.requires.sorted in
    let same : owned_cmp (owned c.args.node.value) (owned c.in-Some.top.value) ≡ c.owned_order.result = cc in
    let more : owned_lt (owned c.args.node.value) (owned c.in-Some.top.value) ≡ false = ap is_lt same ∙ not_less c.owned_order.result c.in_default-owned_order.not-Less in
    let b = p.2 c.requires.balanced in let i = c.insert-in_default-owned_order.ensures in let e = c.balance-in_default-owned_order.ensures in
    record {
      listed = rw (p.0, e.listed, i.listed) (sym (inserted_right (owned c.args.node.value) (listed c.in-Some.l) (owned c.in-Some.top.value) (listed c.in-Some.r) s more));
      balanced = e.balanced;
      height = (rw p.1 (settles_right (height c.in-Some.l) (height c.in-Some.r) (height c.insert-in_default-owned_order.result) (height c.balance-in_default-owned_order.result) i.height.0 i.height.1 b.2 b.3 e.height), omega (arith, p.1, e.height.1, i.height.1));
    }
