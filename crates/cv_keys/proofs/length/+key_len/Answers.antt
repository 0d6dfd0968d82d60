use Rattle.std.proofs.Common.{rules}
use Rattle.cv_keys.specs.KeyBytes.{int_bytes}
use Rattle.cv_keys.proofs.length.+key_len.Goals as goal

pub key_len-returns-in-Int : goal.key_len-returns-in-Int
unfolding int_bytes
key_len-returns-in-Int t c = search rules
