use Rattle.std.proofs.Common.{refl}
use Rattle.cv_keys.specs.KeyBytes.{int_bytes}
use Rattle.cv_keys.proofs.Hex.{id_key_fits}
use Rattle.cv_keys.proofs.item.item_len.Goals as goal

pub returns-in-Id : goal.returns-in-Id
returns-in-Id c = rw c.in-Id.is (id_key_fits c.in-Id.field-0)

pub returns-in-Creation : goal.returns-in-Creation
unfolding int_bytes
returns-in-Creation c = rw c.in-Creation.is refl
