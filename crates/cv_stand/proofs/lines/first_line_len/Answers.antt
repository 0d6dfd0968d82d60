use Rattle.std.proofs.Common.{add-one, arith}
use Rattle.cv_stand.proofs.LineLemmas.{first_line_at, one_line_whole}
use Rattle.cv_stand.proofs.lines.first_line_len.Goals as goal

pub returns-then-b-eq-LINE_FEED-clause-line : goal.returns-then-b-eq-LINE_FEED-clause-line
returns-then-b-eq-LINE_FEED-clause-line c =
    rw add-one (first_line_at c.args.input.now c.loop-i.i c.loop-i-test.true c.loop-i.invariant c.if-b-eq-LINE_FEED.true)

pub returns-clause-line : goal.returns-clause-line
returns-clause-line c =
    one_line_whole c.args.input.now c.requires (λ k l e. c.loop-i.invariant k (omega arith) e)
