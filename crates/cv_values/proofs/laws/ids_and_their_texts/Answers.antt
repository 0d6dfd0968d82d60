use Rattle.cv_values.proofs.IdTexts.{ids_are_read_back, only_texts_are_read, digits_are_read}
use Rattle.cv_values.proofs.laws.ids_and_their_texts.Goals as goal

pub returns-clause-back : goal.returns-clause-back
returns-clause-back c = ids_are_read_back

pub returns-clause-only : goal.returns-clause-only
returns-clause-only c = only_texts_are_read

pub returns-clause-digits : goal.returns-clause-digits
returns-clause-digits c = digits_are_read
