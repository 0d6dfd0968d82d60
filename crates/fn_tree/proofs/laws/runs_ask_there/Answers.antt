use Rattle.fn_tree.proofs.RunsAsk as law
use Rattle.fn_tree.proofs.laws.runs_ask_there.Goals as goal

pub returns : goal.returns
returns c = law.runs_ask_there
