use Rattle.range_tree.proofs.Members.{inserted_has, inserted_keeps, inserted_only, removed_keeps, removed_only, owners_have, owners_only}
use Rattle.range_tree.proofs.laws.lists_tell.Goals as goal

pub returns : goal.returns
returns c = record {
  inserted = inserted_has;
  stays = inserted_keeps;
  alone = inserted_only;
  left = removed_keeps;
  fewer = removed_only;
  hit = owners_have;
  spared = owners_only;
}
