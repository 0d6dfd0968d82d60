use Rattle.std.proofs.Common.{◌≡◌, true, arith}
use Rattle.std.specs.Prelude.{nat_lt}
use Rattle.std.proofs.lemmas.Bool.Decides.{nat_tests}
use Rattle.std.proofs.lemmas.Result.{IfOk-weaker, IfErr-weaker}
use Rattle.fn_plain.proofs.Reading.{read-reaches}
use Rattle.fn_plain.proofs.Steps.{reached_gives, reached_fails}
use Rattle.fn_plain.proofs.read.record_read.Goals as goal

pub returns-clause-ok : goal.returns-clause-ok
returns-clause-ok c n question answered =
    let below : nat_lt c.args.progress.now.counts.ranges c.args.context.now.limits.ranges ≡ true = grind (arith, nat_tests) in
    let reaches = read-reaches c.args.context.now n c.args.progress.now c.push.new.self question c.args.left.now c.args.rows.now c.args.consumed c.requires.left_is below answered c.in_ok-push.ensures.items in
    IfOk-weaker c.count_rows.result _ _ (λ u h. reached_gives reaches h) c.count_rows.ensures.ok

pub returns-clause-err : goal.returns-clause-err
returns-clause-err c n question answered =
    let below : nat_lt c.args.progress.now.counts.ranges c.args.context.now.limits.ranges ≡ true = grind (arith, nat_tests) in
    let reaches = read-reaches c.args.context.now n c.args.progress.now c.push.new.self question c.args.left.now c.args.rows.now c.args.consumed c.requires.left_is below answered c.in_ok-push.ensures.items in
    IfErr-weaker c.count_rows.result _ _ (λ f h. reached_fails c.count_rows.new.progress f reaches h) c.count_rows.ensures.err
