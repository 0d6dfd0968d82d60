use Rattle.std.proofs.Common.{refl}
use Rattle.std.specs.Char.{encode_utf8}
use Rattle.std.specs.Fmt.{digits}
use Rattle.std.specs.Str.{is_utf8, chars}
use Rattle.std.specs.Str.Lossy.{utf8_valid_len}
use Rattle.json.specs.Print.{escape_byte}
use Rattle.cv_store.specs.Kept.{kept}
use Rattle.cv_stand.proofs.laws.worked_plays.Goals as goal

pub returns-clause-moments : goal.returns-clause-moments
returns-clause-moments c = (refl, refl, refl, refl, refl, refl, refl, refl, refl, refl, refl, refl)

pub returns-clause-lines : goal.returns-clause-lines
unfolding utf8_valid_len is_utf8 chars encode_utf8
returns-clause-lines c = (refl, refl, refl, refl, refl, refl, refl, refl, refl)

pub returns-clause-play : goal.returns-clause-play
unfolding digits escape_byte kept
returns-clause-play c = (refl, refl, refl, refl, refl, refl, refl)
