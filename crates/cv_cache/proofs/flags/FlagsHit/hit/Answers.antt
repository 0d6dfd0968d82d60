use Rattle.std.proofs.Common.{◌<◌, ◌≤◌, length, refl, arith}
use Rattle.std.proofs.lemmas.Bool.{lt-ltb, le-ltb}
use Rattle.cv_cache.proofs.flags.FlagsHit.hit.Goals as goal

pub returns-then-number-len : goal.returns-then-number-len
returns-then-number-len c =
    let within : c.args.owner < length c.args.self.now.up.items = omega arith in
    rw (lt-ltb c.args.owner (length c.args.self.now.up.items) within) refl

pub returns-else-number-len : goal.returns-else-number-len
returns-else-number-len c =
    let past : length c.args.self.now.up.items ≤ c.args.owner = omega arith in
    rw (le-ltb c.args.owner (length c.args.self.now.up.items) past) refl
