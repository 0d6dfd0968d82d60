-- The texts that were sent, after one text more.
use Rattle.std.proofs.Common.{◌≡◌, ℕ, List, [], ◌∷◌, ◌++◌, refl, ap}
use Rattle.cv_outside.specs.Traces.{Said, taken, sent, sent_texts}

pub sent_texts_taken : (trace : List Said) (text : List ℕ) → sent_texts (trace ++ taken text ∷ []) ≡ sent_texts trace
sent_texts_taken [] text = refl
sent_texts_taken (taken t ∷ trace) text = sent_texts_taken trace text
sent_texts_taken (sent t ∷ trace) text = ap (λ texts. t ∷ texts) (sent_texts_taken trace text)

pub sent_texts_sent : (trace : List Said) (text : List ℕ) → sent_texts (trace ++ sent text ∷ []) ≡ sent_texts trace ++ text ∷ []
sent_texts_sent [] text = refl
sent_texts_sent (taken t ∷ trace) text = sent_texts_sent trace text
sent_texts_sent (sent t ∷ trace) text = ap (λ texts. t ∷ texts) (sent_texts_sent trace text)
