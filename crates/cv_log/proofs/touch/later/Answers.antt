use Rattle.std.proofs.Common.{◌∙◌, ◌-◌, length, drop, length-drop, arith}
use Rattle.std.proofs.lemmas.List.{take_all}
use Rattle.cv_log.proofs.Marked.{drop_least}
use Rattle.cv_log.proofs.touch.later.Goals as goal

pub returns : goal.returns
returns c =
    let ms = c.args.marked.now in let n = c.min-first.result in
    take_all (length ms - n) (drop n ms) (omega (arith, length-drop n ms)) ∙ drop_least c.args.s n ms c.min-first.ensures
