use Rattle.std.proofs.Common.{◌≡◌, ◌∙◌, ℕ, List, [], ◌∷◌, ◌++◌, MutBor, refl, sym, ap}
use Rattle.cv_ranges.specs.Hits.{after_hits, HasTaken}
use Rattle.cv_ranges.proofs.hit.NotedVisit.hit.Goals as goal

after_more : {M : Type 0} (after : M → ℕ → M) (m : M) (os ps : List ℕ) → after_hits after m (os ++ ps) ≡ after_hits after (after_hits after m os) ps
after_more after m [] ps = refl
after_more after m (o ∷ os) ps = after_more after (after m o) os ps

one_more : {M : Type 0} (after : M → ℕ → M) (m : M) (old new : MutBor M) (seen : List ℕ) (owner : ℕ)
    → new.ghost_name ≡ old.ghost_name → new.now ≡ after old.now owner → HasTaken after m old seen → HasTaken after m new (seen ++ owner ∷ [])
one_more after m old new [] owner name now had = absurd had
one_more after m old new (n ∷ seen) owner name now had =
    (name ∙ had.0, now ∙ (ap (λ x. after x owner) had.1 ∙ sym (after_more after m seen (owner ∷ []))))

pub returns : goal.returns
returns g c = λ seen had m opened.
    let old = c.args.self.now.value in
    one_more g.M.Hit.after_hit m old (record old { now = c.hit.new.self }) seen c.args.owner refl c.hit.ensures (had m opened)
