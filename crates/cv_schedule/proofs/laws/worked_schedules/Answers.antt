use Rattle.std.proofs.Common.{refl}
use Rattle.std.specs.Fmt.{digits}
use Rattle.cv_values.specs.Ids.{hex_of, part}
use Rattle.cv_store.specs.FirstTouch.{first_touch_places}
use Rattle.cv_store.specs.Kept.{kept}
use Rattle.cv_schedule.proofs.laws.worked_schedules.Goals as goal

pub returns-clause-skew : goal.returns-clause-skew
unfolding digits hex_of part kept first_touch_places
returns-clause-skew c = (refl, refl)

pub returns-clause-chat : goal.returns-clause-chat
unfolding digits hex_of part kept first_touch_places
returns-clause-chat c = refl

pub returns-clause-owing : goal.returns-clause-owing
unfolding digits hex_of part kept first_touch_places
returns-clause-owing c = refl

pub returns-clause-loss : goal.returns-clause-loss
unfolding digits hex_of part kept first_touch_places
returns-clause-loss c = (refl, refl)

pub returns-clause-sets : goal.returns-clause-sets
unfolding digits hex_of part kept first_touch_places
returns-clause-sets c = (refl, refl, refl, refl, refl, refl, refl, refl, refl, refl, refl)
