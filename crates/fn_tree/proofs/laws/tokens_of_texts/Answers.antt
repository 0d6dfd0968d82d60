use Rattle.fn_tree.proofs.Places.{tokens_stand_apart, bad_comes_after}
use Rattle.fn_tree.proofs.TokensRead.{tokens_are_read, integers_fit}
use Rattle.fn_tree.proofs.TokenTexts.{tokens_are_texts}
use Rattle.fn_tree.proofs.laws.tokens_of_texts.Goals as goal

pub returns-clause-places : goal.returns-clause-places
returns-clause-places c = tokens_stand_apart

pub returns-clause-bad : goal.returns-clause-bad
returns-clause-bad c = bad_comes_after

pub returns-clause-read : goal.returns-clause-read
returns-clause-read c = tokens_are_read

pub returns-clause-integers : goal.returns-clause-integers
returns-clause-integers c = integers_fit

pub returns-clause-texts : goal.returns-clause-texts
returns-clause-texts c = tokens_are_texts
