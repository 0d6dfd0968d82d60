use Rattle.std.proofs.Common.{◌∙◌, ap}
use Rattle.cv_cache.proofs.Keyed.{removed_is_others}
use Rattle.cv_cache.proofs.Queries.{same_exact}
use Rattle.cv_store.specs.Cache.{same_query}
use Rattle.cv_cache.specs.Recent.{without}
use Rattle.cv_cache.proofs.recent.Recent.take.Goals as goal

pub returns-clause-entries : goal.returns-clause-entries
returns-clause-entries c = ap (λ r. r.entries) c.pop.ensures.entries
    ∙ removed_is_others same_query same_exact c.args.query.now _ c.len-count.ensures.valid.0
    ∙ ap (without c.args.query.now) c.self.view_is
