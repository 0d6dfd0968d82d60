use Rattle.cv_store.proofs.LongerHistories.{keys_go_on, places_go_on}
use Rattle.cv_store.proofs.laws.touches_go_on.Goals as goal

pub returns-clause-keys : goal.returns-clause-keys
returns-clause-keys c = keys_go_on

pub returns-clause-places : goal.returns-clause-places
returns-clause-places c = places_go_on
