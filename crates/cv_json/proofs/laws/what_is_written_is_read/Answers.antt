use Rattle.cv_json.proofs.RoundTrip.{read-json_of}
use Rattle.cv_json.proofs.laws.what_is_written_is_read.Goals as goal

pub returns : goal.returns
returns c = read-json_of
