use Rattle.std.proofs.Common.{◌++◌, ◌∙◌, ap, sym, append_assoc, map, Some}
use Rattle.cv_keys.specs.KeyBytes.{key, place_key}
use Rattle.cv_keys.proofs.Prefixes.{place_key_last}
use Rattle.cv_values.specs.Trees.{tree}
use Rattle.cv_keys.proofs.ends.put_prefix.Goals as goal

pub returns-in-Some-clause-bytes : goal.returns-in-Some-clause-bytes
returns-in-Some-clause-bytes c =
    let p = map Some (map tree c.args.values.now) in
    let v = tree c.in-Some.v.now in
    rw c.in-Some.is (c.in_ok-put_key.ensures.bytes ∙ ap (λ r. r ++ key v) c.in_ok-put_each.ensures.bytes
    ∙ append_assoc c.args.out.now.items (place_key p) (key v) ∙ ap (λ r. c.args.out.now.items ++ r) (sym (place_key_last p (Some v))))
