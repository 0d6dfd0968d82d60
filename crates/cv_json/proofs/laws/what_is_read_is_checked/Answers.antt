use Rattle.cv_json.proofs.Accepted.{checked-read}
use Rattle.cv_json.proofs.laws.what_is_read_is_checked.Goals as goal

pub returns : goal.returns
returns c = checked-read
