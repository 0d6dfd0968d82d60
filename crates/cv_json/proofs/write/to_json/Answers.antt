use Rattle.cv_json.proofs.RoundTrip.{reads_back}
use Rattle.cv_values.specs.Trees.{tree}
use Rattle.cv_json.proofs.write.to_json.Goals as goal

pub returns-clause-reads_back : goal.returns-clause-reads_back
returns-clause-reads_back c = reads_back c.write_value.result (tree c.args.v.now) c.write_value.ensures.value c.write_value.ensures.in_range
