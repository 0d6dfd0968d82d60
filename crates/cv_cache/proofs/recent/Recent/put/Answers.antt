use Rattle.std.proofs.Common.{◌≡◌, ◌≤◌, ◌∙◌, ap, length, subst, sym, option_map}
use Rattle.cv_cache.proofs.Keyed.{put_is, displaced_is}
use Rattle.cv_cache.proofs.Queries.{same_exact}
use Rattle.cv_store.specs.Cache.{same_query}
use Rattle.cv_cache.specs.Recent.{put_first, gone_for}
use Rattle.cv_cache.proofs.recent.Recent.put.Goals as goal
use Rattle.cv_cache.proofs.recent.Recent.put.Goals.{in-Some, in-None}

pub returns-clause-entries : goal.returns-clause-entries
returns-clause-entries c =
    let valid = c.len-count.ensures.valid in
    let few = subst (λ n. length c.self.inside.entries.entries ≤ n) c.self.invariant valid.1 in
    let put = put_is same_query same_exact c.args.query 1023 c.args.kept c.self.inside.entries valid.0 c.self.invariant few in
    let is = ap (λ r. r.entries) c.in_ok-_query.ensures.entries ∙ put ∙ ap (put_first c.args.query c.args.kept) c.self.view_is in
    elim c.match-branch-2.branch [ in-Some w ↦ rw w.result-is is | in-None w ↦ rw w.result-is is ]

pub returns-clause-gone : goal.returns-clause-gone
returns-clause-gone c =
    let is = ap (λ o. option_map (λ e. e.1) o) c.in_ok-_query.ensures.old ∙ displaced_is same_query same_exact c.args.query 1023 c.args.kept c.self.inside.entries c.self.invariant ∙ ap (gone_for c.args.query) c.self.view_is in
    elim c.match-branch-2.branch [ in-Some w ↦ rw w.result-is (sym (ap (λ o. option_map (λ e. e.1) o) w.in-Some.is) ∙ is) | in-None w ↦ rw w.result-is (sym (ap (λ o. option_map (λ e. e.1) o) w.in-None.is) ∙ is) ]
