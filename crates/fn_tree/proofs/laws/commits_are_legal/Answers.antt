use Rattle.fn_tree.proofs.CommitsAreLegal.{commits_are_legal, answers_stay}
use Rattle.fn_tree.proofs.laws.commits_are_legal.Goals as goal

pub returns-clause-commits : goal.returns-clause-commits
returns-clause-commits c = commits_are_legal

pub returns-clause-answers : goal.returns-clause-answers
returns-clause-answers c = answers_stay
