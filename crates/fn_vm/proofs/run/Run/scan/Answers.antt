use Rattle.std.proofs.Common.{[], length, subst, sym, zip}
use Rattle.std.proofs.lemmas.Result.{IfOk-weaker}
use Rattle.fn_code.specs.Operands.{popped}
use Rattle.fn_code.specs.Steps.{under_limit}
use Rattle.fn_tree.specs.Reading.{bounded}
use Rattle.fn_vm.proofs.Scanning.{left_some, scans_found}
use Rattle.fn_vm.specs.Moves.{Moves}
use Rattle.fn_vm.specs.Scans.{Leave}
use Rattle.fn_vm.specs.Views.{state_view, terms_view}
use Rattle.fn_vm.proofs.run.Run.scan.Goals as goal

pub returns : goal.returns
returns c =
    let s = state_view c.args.self.now in
    let ops = c.args.bounds.now in
    let values = popped (length ops) [] (under_limit c.args.limited s.frame.stack) in
    let there = left_some c.args.table c.args.index ops values c.in-Some.interval (subst (Leave c.args.table c.args.index ops values) c.in-Some.is c.in_ok-interval.ensures) in
    let found = scans_found (terms_view c.args.terms.now) s c.args.table c.args.index ops c.args.desc c.args.limited s.frame.stack c.in-Ok.limit there.0 c.in-Ok.ensures.ok there.1 in
    IfOk-weaker c.ask_rows.result _ _ (λ stop h. subst (λ x. Moves x stop (state_view c.ask_rows.new.self)) (sym found) (h (bounded c.args.table c.args.index (zip ops there.0.0)) there.2)) c.ask_rows.ensures
