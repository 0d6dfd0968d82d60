use Rattle.std.proofs.Common.{rules}
use Rattle.std.specs.Ordering.{is_lt}
use Rattle.std.proofs.lemmas.List.Sorted.{IsPartitionPoint-from_clause}
use Rattle.cv_values.specs.Order.{text_cmp}
use Rattle.cv_flat.proofs.Front.{passing_from_point, parted, lower_falls}
use Rattle.cv_flat.proofs.places.first_from.Goals as goal

pub returns-clause-place : goal.returns-clause-place
returns-clause-place c =
    let parts = parted (λ e. is_lt (text_cmp e.key c.args.key.now)) c.args.entries.now (lower_falls c.args.key.now c.args.entries.now c.requires) in
    let point = IsPartitionPoint-from_clause (λ e. is_lt (text_cmp e.key c.args.key.now)) _ _ c.partition_point.ensures.partitioned parts (λ a r q k. search rules) in
    passing_from_point _ _ _ c.partition_point.ensures.bound point
