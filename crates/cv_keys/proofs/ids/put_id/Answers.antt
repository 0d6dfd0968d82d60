use Rattle.std.proofs.Common.{◌++◌, ◌∷◌, [], ◌∙◌, ap, append_assoc}
use Rattle.cv_values.specs.Ids.{hex_of}
use Rattle.cv_keys.proofs.Hex.{id_key}
use Rattle.cv_keys.proofs.ids.put_id.Goals as goal

pub returns : goal.returns
returns c =
    let id = c.args.id.now in
    rw id_key (c.in_ok-put-2.ensures
    ∙ ap (λ r. r ++ 0 ∷ 1 ∷ []) (c.in_ok-put_hex-4.ensures ∙ ap (λ n. c.put_hex-3.new.out.items ++ hex_of 4 n) c.from-3.ensures
    ∙ ap (λ r. r ++ hex_of 4 id.ordinal) (c.in_ok-put_hex-3.ensures ∙ ap (λ n. c.put_hex-2.new.out.items ++ hex_of 8 n) c.from-2.ensures
    ∙ ap (λ r. r ++ hex_of 8 id.request) (c.in_ok-put_hex-2.ensures
    ∙ ap (λ r. r ++ hex_of 32 id.session) (c.in_ok-put_hex.ensures ∙ ap (λ n. c.put.new.out.items ++ hex_of 4 n) c.from.ensures
    ∙ ap (λ r. r ++ hex_of 4 id.table) c.in_ok-put.ensures)))) ∙ simp append_assoc)
