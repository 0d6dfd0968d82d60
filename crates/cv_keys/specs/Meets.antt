-- Comparing a key with a target piece by piece.
use Rattle.std.specs.Prelude.{◌≡◌, ℕ, List, [], ◌∷◌, ◌++◌, Result, Ok, Err, MatchResult}
use Rattle.std.specs.Borrow.{Bor}
use Rattle.std.specs.Ordering.{nat_cmp}
use Rattle.std.specs.declared.cmp.Ordering.{Ordering}
use Rattle.std.specs.declared.cmp.Ordering.TheVariants.{Less, Equal, Greater}
use Rattle.cv_values.specs.Ids.{hex_of}
use Rattle.cv_values.specs.declared.ids.DocId.{DocId}

abbrev pub met_step : Ordering → Result (List ℕ) Ordering → Result (List ℕ) Ordering
met_step Less r = Err Less
met_step Equal r = r
met_step Greater r = Err Greater

-- what is left of a target that begins with these bytes, or how the bytes compare with it where they part
abbrev pub met : List ℕ → List ℕ → Result (List ℕ) Ordering
met [] target = Ok target
met (b ∷ bs) [] = Err Greater
met (b ∷ bs) (c ∷ target) = met_step (nat_cmp b c) (met bs target)

-- a comparison of these bytes with a target answered this
abbrev pub IsMet : List ℕ → List ℕ → Result (Bor (List ℕ)) Ordering → Type 0
IsMet bytes target answer = MatchResult answer (λ rest. met bytes target ≡ Ok rest.now) (λ o. met bytes target ≡ Err o)

-- what the key of an id's text has behind its first byte
abbrev pub id_end : DocId → List ℕ
id_end id = hex_of 4 id.table ++ (hex_of 32 id.session ++ (hex_of 8 id.request ++ (hex_of 4 id.ordinal ++ (0 ∷ 1 ∷ []))))
