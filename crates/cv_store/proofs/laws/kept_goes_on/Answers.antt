use Rattle.cv_store.proofs.KeptLaws.{kept_stays, kept_with_entry, not_kept_is_new}
use Rattle.cv_store.proofs.laws.kept_goes_on.Goals as goal

pub returns-clause-stays : goal.returns-clause-stays
returns-clause-stays c = kept_stays

pub returns-clause-entry : goal.returns-clause-entry
returns-clause-entry c = kept_with_entry

pub returns-clause-new : goal.returns-clause-new
returns-clause-new c = not_kept_is_new
