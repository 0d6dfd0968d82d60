use Rattle.std.proofs.Common.{◌∙◌, ap}
use Rattle.std.specs.Prelude.{codes}
use Rattle.fn_tree.specs.Actions.{or_type_error}
use Rattle.fn_plain.proofs.Sites.{site_origin}
use Rattle.fn_plain.proofs.Steps.{gave_pure, gives_as, fails_by}
use Rattle.fn_plain.proofs.change.origin_of.Goals as goal

pub returns-in-Some-clause-ok : goal.returns-in-Some-clause-ok
returns-in-Some-clause-ok c n =
    gives_as (ap or_type_error (site_origin c.args.context.now n ∙ c.in-Some.is)) (gave_pure c.in-Some.origin c.requires.within)

pub returns-in-None-clause-err : goal.returns-in-None-clause-err
returns-in-None-clause-err c n =
    fails_by c.args.context.now c.args.progress.now c.failure.result (codes "TypeError") (ap or_type_error (site_origin c.args.context.now n ∙ c.in-None.is)) c.failure.ensures
