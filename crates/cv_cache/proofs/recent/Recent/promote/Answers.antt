use Rattle.std.proofs.Common.{◌∙◌, ap}
use Rattle.cv_cache.proofs.Keyed.{promoted_is}
use Rattle.cv_cache.proofs.Queries.{same_exact}
use Rattle.cv_store.specs.Cache.{same_query}
use Rattle.cv_cache.specs.Recent.{used_again}
use Rattle.cv_cache.proofs.recent.Recent.promote.Goals as goal

pub returns : goal.returns
returns c = ap (λ r. r.entries) c.promote.ensures.entries
    ∙ promoted_is same_query same_exact c.args.query.now _ c.len-count.ensures.valid.0
    ∙ ap (used_again c.args.query.now) c.self.view_is
