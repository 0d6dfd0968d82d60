use Rattle.cv_keys.proofs.ItemCmp.{keys_go_by_items, keys_are_exact, no_key_is_prefix, places_go_by_keys, intervals_hold_by_keys}
use Rattle.cv_keys.proofs.Touching.{touch_goes_by_keys}
use Rattle.cv_keys.proofs.laws.keys_keep_order.Goals as goal

pub returns-clause-order : goal.returns-clause-order
returns-clause-order c = keys_go_by_items

pub returns-clause-exact : goal.returns-clause-exact
returns-clause-exact c = keys_are_exact

pub returns-clause-prefix : goal.returns-clause-prefix
returns-clause-prefix c = no_key_is_prefix

pub returns-clause-lists : goal.returns-clause-lists
returns-clause-lists c = places_go_by_keys

pub returns-clause-intervals : goal.returns-clause-intervals
returns-clause-intervals c = intervals_hold_by_keys

pub returns-clause-touch : goal.returns-clause-touch
returns-clause-touch c = touch_goes_by_keys
