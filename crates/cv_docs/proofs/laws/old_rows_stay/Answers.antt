use Rattle.cv_docs.proofs.Later.{later_inserts, rows_by_newest, newest_by_inserts, inserts_set, inserts_keep_order}
use Rattle.cv_docs.proofs.Allowed.{later_allowed, stay_known}
use Rattle.cv_docs.proofs.laws.old_rows_stay.Goals as goal

pub returns-clause-later : goal.returns-clause-later
returns-clause-later c = later_inserts

pub returns-clause-newest : goal.returns-clause-newest
returns-clause-newest c = newest_by_inserts

pub returns-clause-sets : goal.returns-clause-sets
returns-clause-sets c = inserts_set

pub returns-clause-order : goal.returns-clause-order
returns-clause-order c = inserts_keep_order

pub returns-clause-known : goal.returns-clause-known
returns-clause-known c = stay_known

pub returns-clause-allowed : goal.returns-clause-allowed
returns-clause-allowed c = later_allowed

pub returns-clause-rows : goal.returns-clause-rows
returns-clause-rows c = rows_by_newest
