use Rattle.std.proofs.Common.{◌≡◌, ◌<◌, ◌+◌, ◌-◌, ◌^◌, ap, refl, arith}
use Rattle.fn_plain.proofs.Writes.{write_gives, write_fails, size_fails}
use Rattle.fn_plain.proofs.change.write.Goals as goal

pub returns-then-progress-context-clause-err : goal.returns-then-progress-context-clause-err
returns-then-progress-context-clause-err c n m e =
    write_fails c.args.context.now c.args.progress.now n m c.args.put _ c.if-progress-context.true c.failure.ensures

pub returns-then-written-context-clause-err : goal.returns-then-written-context-clause-err
returns-then-written-context-clause-err c n m e =
    let r = c.requires.within.written_room in
    size_fails c.args.context.now c.args.progress.now n m c.args.put _ c.if-progress-context.false (omega arith) c.failure-then-written-context.ensures

pub returns-clause-ok : goal.returns-clause-ok
returns-clause-ok c n m e =
    let p = c.args.progress.now in
    let r : p.counts.written + c.args.size < 2 ^ 64 - 1 = omega (arith, c.requires.within.written_room) in
    let w : c.saturating_add-written.result ≡ p.counts.written + m = omega arith in
    write_gives c.args.context.now p _ n m c.args.put c.requires.within c.if-progress-context.false (omega arith) c.in_ok-push.ensures.items refl
    (ap (λ x. record (p.counts) { writes = p.counts.writes + 1; written = x }) w)
