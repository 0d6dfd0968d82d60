use Rattle.std.proofs.Common.{map, Some, arith, length-append}
use Rattle.cv_keys.specs.KeyBytes.{key, place_key}
use Rattle.cv_keys.proofs.Prefixes.{place_key_last}
use Rattle.cv_values.specs.Trees.{tree}
use Rattle.cv_keys.proofs.ends.prefix_len.Goals as goal

pub returns-in-Some : goal.returns-in-Some
returns-in-Some c =
    let p = map Some (map tree c.args.values.now) in
    let v = tree c.in-Some.v.now in
    rw (c.in-Some.is, place_key_last p (Some v), length-append (place_key p) (key v)) (omega arith)
