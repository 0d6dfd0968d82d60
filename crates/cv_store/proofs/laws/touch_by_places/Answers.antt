use Rattle.cv_store.proofs.TouchedPlaces.{touches_go_by_places, none_is_untouched}
use Rattle.cv_store.proofs.laws.touch_by_places.Goals as goal

pub returns-clause-touches : goal.returns-clause-touches
returns-clause-touches c = touches_go_by_places

pub returns-clause-none : goal.returns-clause-none
returns-clause-none c = none_is_untouched
