use Rattle.cv_json.proofs.RoundTrip.{read_ts-ts_text}
use Rattle.cv_json.proofs.laws.timestamps_are_read.Goals as goal

pub returns : goal.returns
returns c = read_ts-ts_text
