use Rattle.fn_tree.proofs.CanonicalLaws.{canonical_reads_back}
use Rattle.fn_tree.proofs.laws.canonical_texts.Goals as goal

pub returns : goal.returns
returns c = canonical_reads_back
