use Rattle.std.proofs.Common.{◌∙◌, ap}
use Rattle.cv_keys.specs.KeyIds.{id_in}
use Rattle.cv_keys.proofs.ReadIds.{if_some_id, if_some_one, if_none_id}
use Rattle.cv_keys.proofs.ids.id_of.Goals as goal

pub returns-clause-some : goal.returns-clause-some
returns-clause-some c = if_some_id c.args.key.now c.id_in.result (c.id_in.ensures ∙ ap id_in c.as_slice.ensures)

pub returns-clause-one : goal.returns-clause-one
returns-clause-one c = if_some_one c.args.key.now c.id_in.result (c.id_in.ensures ∙ ap id_in c.as_slice.ensures)

pub returns-clause-none : goal.returns-clause-none
returns-clause-none c = if_none_id c.args.key.now c.id_in.result (c.id_in.ensures ∙ ap id_in c.as_slice.ensures)
