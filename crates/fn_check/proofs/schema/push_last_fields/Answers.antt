use Rattle.std.proofs.Common.{◌≡◌, ◌∙◌, ap, ℕ, List, [], ◌∷◌, ◌++◌, append_assoc, codes}
use Rattle.fn_check.proofs.schema.push_last_fields.Goals as goal

both : (old mid new : List (List ℕ)) (a b x y : List ℕ) → mid ≡ old ++ a ∷ [] → new ≡ mid ++ b ∷ [] → a ≡ x → b ≡ y → new ≡ old ++ x ∷ y ∷ []
both old mid new a b x y p q r s =
    q ∙ ap (λ m. m ++ b ∷ []) p ∙ append_assoc old (a ∷ []) (b ∷ []) ∙ ap (λ u. old ++ u ∷ b ∷ []) r ∙ ap (λ u. old ++ x ∷ u ∷ []) s

pub returns : goal.returns
returns c = both c.args.fields.now c.push.new.self c.push-2.new.self _ _ (codes "_creationTime") (codes "_id") c.in_ok-push.ensures.ok c.in_ok-push-2.ensures.ok c.in_ok-of.ensures c.in_ok-of-2.ensures
