use Rattle.std.proofs.Common.{◌≡◌, ◌∙◌, [], ◌∷◌, Some, sym, refl, rules}
use Rattle.cv_ranges.proofs.hit.hit_from.Goals as goal

pub returns : goal.returns
returns g c =
    let seen = c.visit_marked.ensures (_ ∷ []) (λ m e. let same : ◌≡◌ (Some m) (Some c.args.hits.now) = sym e ∙ c.requires in (refl, cc)) _ c.requires in
    search (rules, seen.0, seen.1)
