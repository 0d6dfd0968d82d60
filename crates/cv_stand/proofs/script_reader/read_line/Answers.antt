use Rattle.std.proofs.Common.{Some, sym, ◌∙◌}
use Rattle.cv_stand.specs.ScriptViews.{event_view}
use Rattle.cv_stand.proofs.ScriptEvents.{line_says}
use Rattle.cv_stand.proofs.script_reader.read_line.Goals as goal

pub returns-in-Some : goal.returns-in-Some
returns-in-Some c =
    let text = c.in-Ok.ensures.cases in
    let e = rw (c.in-Some.is, text.0) at c.in_ok-event.ensures in
    line_says c.args.line.now (Some (event_view c.in-Some.event)) (sym c.is_empty.ensures ∙ c.if-is_empty.false) text.1 e
