use Rattle.std.proofs.Common.{◌≡◌, ap, ◌∙◌}
use Rattle.fn_tree.specs.Schemas.{schema_of}
use Rattle.fn_tree.specs.SyntaxViews.{module_view}
use Rattle.cv_store.specs.Tails.{tail_from}
use Rattle.cv_core.specs.Cores.{State, schema_in}
use Rattle.cv_core.specs.Tailing.{tail_in}
use Rattle.cv_core.proofs.CoreReads.{if_ok}
use Rattle.cv_core.proofs.Tailed.{tail_is}
use Rattle.cv_core.proofs.the_core.Core.tail.Goals as goal

pub returns-clause-ok : goal.returns-clause-ok
returns-clause-ok c =
    let log = c.self.inside.log in let schema = schema_of (module_view c.self.inside.checked.tree).tables in
    if_ok (λ t. t ≡ tail_in log.marks c.args.from) (λ t. t ≡ tail_from (schema_in c.args.self.now) c.args.self.now.log c.args.from) c.tail_of.result c.tail_of.ensures
    (λ t e. e ∙ tail_is schema log.entries c.args.from log.marks c.self.invariant.marks ∙ ap (λ (s : State). tail_from (schema_in s) s.log c.args.from) c.self.view_is)
