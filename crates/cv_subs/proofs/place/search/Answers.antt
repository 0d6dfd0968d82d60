use Rattle.std.proofs.Common.{ℕ, rules}
use Rattle.std.proofs.lemmas.List.Sorted.{answers_always}
use Rattle.cv_subs.specs.declared.record.Record.{Record}
use Rattle.cv_subs.proofs.Searched.{searched}
use Rattle.cv_subs.proofs.place.search.Goals as goal

pub returns : goal.returns
returns c =
    searched c.args.id c.args.list.now c.binary_search_by_key.result c.requires c.binary_search_by_key.ensures.bound
    (c.binary_search_by_key.ensures.position (λ (r : Record). r.id) (answers_always _ _ _ (λ f a r g h. search rules)))
