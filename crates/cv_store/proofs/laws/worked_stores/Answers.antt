use Rattle.std.proofs.Common.{refl}
use Rattle.cv_store.specs.FirstTouch.{first_touch, first_touch_places}
use Rattle.cv_store.specs.Kept.{kept}
use Rattle.cv_store.proofs.laws.worked_stores.Goals as goal

pub returns-clause-touches : goal.returns-clause-touches
unfolding first_touch first_touch_places kept
returns-clause-touches c = (refl, refl, refl, refl, refl, refl)

pub returns-clause-caches : goal.returns-clause-caches
unfolding first_touch
returns-clause-caches c = (refl, refl, refl, refl, refl, refl, refl, refl, refl, refl)
