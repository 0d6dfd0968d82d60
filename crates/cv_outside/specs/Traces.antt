-- What passed over a link.
use Rattle.std.proofs.Common.{inl, inr}
use Rattle.std.specs.Prelude.{◌≡◌, ◌⊎◌, ℕ, List, [], ◌∷◌, refl}
use Rattle.std.specs.Coded.{Coded, code_by, coded⊎, coded_list, coded_ℕ}

-- a text that was taken, or sent
pub data Said : Type 0 where
  taken : List ℕ → Said
  sent : List ℕ → Said

-- the texts that were sent, in order
abbrev pub sent_texts : List Said → List (List ℕ)
sent_texts [] = []
sent_texts (taken text ∷ trace) = sent_texts trace
sent_texts (sent text ∷ trace) = text ∷ sent_texts trace

-- ---- how the logic stores a trace

abbrev side : Said → List ℕ ⊎ List ℕ
side (taken text) = inl text
side (sent text) = inr text

abbrev said : List ℕ ⊎ List ℕ → Said
said (inl text) = taken text
said (inr text) = sent text

abbrev said_again : (s : Said) → said (side s) ≡ s
said_again (taken text) = refl
said_again (sent text) = refl

abbrev pub said_code : Coded Said
said_code = code_by (List ℕ ⊎ List ℕ) (coded⊎ (coded_list coded_ℕ) (coded_list coded_ℕ)) side said said_again

abbrev pub trace_code : Coded (List Said)
trace_code = coded_list said_code
