use Rattle.fn_tree.proofs.IdsOfHistories.{ids_have_pairs}
use Rattle.fn_tree.proofs.LegalHistories.{fronts_are_legal, go_on_by_runs}
use Rattle.fn_tree.proofs.laws.legal_histories.Goals as goal

pub returns-clause-fronts : goal.returns-clause-fronts
returns-clause-fronts c = fronts_are_legal

pub returns-clause-runs : goal.returns-clause-runs
returns-clause-runs c = go_on_by_runs

pub returns-clause-ids : goal.returns-clause-ids
returns-clause-ids c = ids_have_pairs
