use Rattle.std.proofs.Common.{ℕ, List, ◌++◌, take, length-append, append_assoc, arith, Option, None, Some}
use Rattle.std.specs.Io.KnownBytes.{Consumes}
use Rattle.cv_outside.proofs.whole.read_whole.Goals as goal

Consumes-more : (h0 h1 h2 : Option (List ℕ)) (xs ys : List ℕ) → Consumes h0 h1 xs → Consumes h1 h2 ys → Consumes h0 h2 (xs ++ ys)
Consumes-more None h1 h2 xs ys p q = tt
Consumes-more (Some a) None h2 xs ys p q = absurd p
Consumes-more (Some a) (Some b) None xs ys p q = absurd q
Consumes-more (Some a) (Some b) (Some c) xs ys p q = rw (p, q, append_assoc)

pub returns-then-len-count-clause-taken : goal.returns-then-len-count-clause-taken
returns-then-len-count-clause-taken g c = λ _.
    let bytes = c.loop-count.bytes.items in
    let given = take c.in-Ok.count c.read.new.piece in (
      bytes ++ given,
      Consumes-more (g.S.Source.left c.args.source.now) (g.S.Source.left c.loop-count.source) (g.S.Source.left c.read.new.self) bytes given c.loop-count.invariant.0 c.in-Ok.ensures.bytes.0,
      omega (arith, length-append bytes given, c.if-len-count.true, c.len.ensures, c.in-Ok.ensures.bound.1),
    )
