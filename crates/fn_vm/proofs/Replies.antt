-- The reply of a run.
use Rattle.std.proofs.Common.{◌≡◌, true, false, nat_le, codes}
use Rattle.cv_values.specs.Sizes.{size_of}
use Rattle.cv_values.specs.Value.{Value}
use Rattle.fn_code.specs.States.{ends, fails}
use Rattle.fn_code.specs.Steps.{Terms, replies}
use Rattle.fn_tree.specs.Actions.{Counts}
use Rattle.fn_tree.specs.Course.{gives}

pub reply_fits : (t : Terms) (c : Counts) (v : Value) → nat_le (size_of v) t.limits.reply ≡ true → replies t c v ≡ ends (record { reply = gives v; cost = c.cost })
reply_fits t c v e = rw (e, replies)

pub reply_is_large : (t : Terms) (c : Counts) (v : Value) → nat_le (size_of v) t.limits.reply ≡ false → replies t c v ≡ fails c (codes "TooLarge")
reply_is_large t c v e = rw (e, replies)
