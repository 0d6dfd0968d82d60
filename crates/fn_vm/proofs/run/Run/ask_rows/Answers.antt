use Rattle.std.proofs.Common.{refl}
use Rattle.fn_tree.specs.Course.{scan_rows}
use Rattle.fn_vm.proofs.run.Run.ask_rows.Goals as goal

pub returns-in-Some : goal.returns-in-Some
returns-in-Some c p are =
    let question = scan_rows p c.args.desc c.args.limit in
    (question c.in-Some.left, c.in-Some.ensures.asked question, (p, refl, are.0, are.1, are.2, c.in-Some.ensures.size))
