use Rattle.std.proofs.Common.{ℕ, List, Err, refl, ap, subst}
use Rattle.convexd.specs.Commands.{IsGood, Says}
use Rattle.convexd.specs.Exits.{IsDoneOrFault}
use Rattle.convexd.proofs.Commands.{answered, read_failed, input_too_large, no_memory}
use Rattle.convexd.proofs.command.Command.run.Goals as goal

pub returns-in-Ok : goal.returns-in-Ok
returns-in-Ok g c =
    let bytes = c.in-Ok.bytes.items in
    let says = subst (λ (b : List ℕ). Says c.args.self b (g.O.Sink.held c.args.out.now) (g.O.Sink.held c.answer.new.out) c.answer.result) c.deref.ensures.value c.answer.ensures.answer in
    let good = subst (λ (b : List ℕ). IsGood c.args.self b → IsDoneOrFault c.answer.result) c.deref.ensures.value c.answer.ensures.good in
    answered c.args.self g.I.Source.left g.I.Source.faults g.O.Sink.held g.O.Sink.faults c.args.input.now c.read_whole.new.source c.args.out.now c.answer.new.out
    bytes c.answer.result c.in-Ok.ensures.whole c.in-Ok.ensures.end (c.in-Ok.ensures.kept (λ e. cc)) says good c.answer.ensures.cause

pub returns-in-Err-Read : goal.returns-in-Err-Read
returns-in-Err-Read g c =
    read_failed c.args.self g.I.Source.left g.I.Source.faults g.O.Sink.held g.O.Sink.faults c.args.input.now c.read_whole.new.source c.args.out.now
    (c.in-Err-Read.ensures.read (ap Err c.in-Err-Read.field-0-is))

pub returns-in-Err-TooLarge : goal.returns-in-Err-TooLarge
returns-in-Err-TooLarge g c =
    input_too_large c.args.self g.I.Source.left g.I.Source.faults g.O.Sink.held g.O.Sink.faults c.args.input.now c.read_whole.new.source c.args.out.now
    (c.in-Err-TooLarge.ensures.too_large (ap Err c.in-Err-TooLarge.field-0-is)) (c.in-Err-TooLarge.ensures.kept (λ e. cc))

pub returns-in-Err-Memory : goal.returns-in-Err-Memory
returns-in-Err-Memory g c =
    no_memory c.args.self g.I.Source.left g.I.Source.faults g.O.Sink.held g.O.Sink.faults c.args.input.now c.read_whole.new.source c.args.out.now
    (c.in-Err-Memory.ensures.kept (λ e. cc))
