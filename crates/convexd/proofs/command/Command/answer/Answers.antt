use Rattle.std.proofs.Common.{sym, subst}
use Rattle.convexd.specs.Commands.{IsGood, Says}
use Rattle.convexd.specs.declared.command.Command.{Command}
use Rattle.convexd.specs.declared.command.Command.TheVariants.{Check, Replay}
use Rattle.convexd.proofs.command.Command.answer.Goals as goal

pub returns-in-Check-clause-answer : goal.returns-in-Check-clause-answer
returns-in-Check-clause-answer g c =
    subst (λ (x : Command). Says x c.args.input.now (g.O.Sink.held c.args.out.now) (g.O.Sink.held c.check_input.new.out) c.check_input.result) (sym c.in-Check.is) c.check_input.ensures.answer

pub returns-in-Replay-clause-answer : goal.returns-in-Replay-clause-answer
returns-in-Replay-clause-answer g c =
    subst (λ (x : Command). Says x c.args.input.now (g.O.Sink.held c.args.out.now) (g.O.Sink.held c.replay_input.new.out) c.replay_input.result) (sym c.in-Replay.is) c.replay_input.ensures.answer

pub returns-in-Check-clause-good : goal.returns-in-Check-clause-good
returns-in-Check-clause-good g c good =
    let is : IsGood Check c.args.input.now = subst (λ (x : Command). IsGood x c.args.input.now) c.in-Check.is good in
    c.accepted_modules_end.ensures.ends c.args.input.now is.0 is.1 _ _ _ c.check_input.ensures.answer

pub returns-in-Replay-clause-good : goal.returns-in-Replay-clause-good
returns-in-Replay-clause-good g c good =
    let is : IsGood Replay c.args.input.now = subst (λ (x : Command). IsGood x c.args.input.now) c.in-Replay.is good in
    c.good_inputs_end.ensures c.args.input.now is _ _ _ c.replay_input.ensures.answer
