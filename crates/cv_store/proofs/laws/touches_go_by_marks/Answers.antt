use Rattle.cv_store.proofs.TouchedMarks.{entries_go_by_marks, histories_go_by_marks, answers_tell}
use Rattle.cv_store.proofs.laws.touches_go_by_marks.Goals as goal

pub returns : goal.returns
returns c = record { entries = entries_go_by_marks; histories = histories_go_by_marks; answers = answers_tell }
