-- Comparing the parts of a key in turn compares the key.
use Rattle.std.proofs.Common.{◌≡◌, ℕ, List, [], ◌∷◌, ◌++◌, Result, Ok, Err, Ordering, Less, Equal, Greater, refl, ap, sym, ◌∙◌, ◌<◌, length, arith}
use Rattle.std.specs.Ordering.{nat_cmp, ordering_then}
use Rattle.cv_values.specs.Order.{text_cmp}
use Rattle.cv_keys.specs.Meets.{met, met_step}

abbrev pub then_met : List ℕ → Result (List ℕ) Ordering → Result (List ℕ) Ordering
then_met bs (Ok rest) = met bs rest
then_met bs (Err o) = Err o

step : (o : Ordering) (bs : List ℕ) (r s : Result (List ℕ) Ordering) → s ≡ then_met bs r → met_step o s ≡ then_met bs (met_step o r)
step Less bs r s e = refl
step Equal bs r s e = e
step Greater bs r s e = refl

pub met_both : (front bs target : List ℕ) → met (front ++ bs) target ≡ then_met bs (met front target)
met_both [] bs target = refl
met_both (a ∷ front) bs [] = refl
met_both (a ∷ front) bs (c ∷ target) = step (nat_cmp a c) bs (met front target) (met (front ++ bs) target) (met_both front bs target)

-- the bytes before are there: go on with the rest
pub met_on : (front bs target rest : List ℕ) → met front target ≡ Ok rest → met (front ++ bs) target ≡ met bs rest
met_on front bs target rest e = met_both front bs target ∙ ap (then_met bs) e

-- the bytes before part from the target
pub met_apart : (front bs target : List ℕ) (o : Ordering) → met front target ≡ Err o → met (front ++ bs) target ≡ Err o
met_apart front bs target o e = met_both front bs target ∙ ap (then_met bs) e

-- how the whole compares, where nothing follows
abbrev pub ended : Result (List ℕ) Ordering → Ordering
ended (Ok []) = Equal
ended (Ok (c ∷ rest)) = Less
ended (Err o) = o

ended_step : (o : Ordering) (r : Result (List ℕ) Ordering) → ended (met_step o r) ≡ ordering_then o (ended r)
ended_step Less r = refl
ended_step Equal r = refl
ended_step Greater r = refl

pub met_all : (bs target : List ℕ) → ended (met bs target) ≡ text_cmp bs target
met_all [] [] = refl
met_all [] (c ∷ target) = refl
met_all (b ∷ bs) [] = refl
met_all (b ∷ bs) (c ∷ target) = ended_step (nat_cmp b c) (met bs target) ∙ ap (ordering_then (nat_cmp b c)) (met_all bs target)

pub apart_cmp : (bs target : List ℕ) (o : Ordering) → met bs target ≡ Err o → text_cmp bs target ≡ o
apart_cmp bs target o e = sym (met_all bs target) ∙ ap ended e

pub equal_cmp : (bs target rest : List ℕ) → met bs target ≡ Ok rest → length rest ≡ 0 → text_cmp bs target ≡ Equal
equal_cmp bs target [] e h = sym (met_all bs target) ∙ ap ended e
equal_cmp bs target (c ∷ rest) e h = absurd (omega arith)

pub less_cmp : (bs target rest : List ℕ) → met bs target ≡ Ok rest → 0 < length rest → text_cmp bs target ≡ Less
less_cmp bs target [] e h = absurd (omega arith)
less_cmp bs target (c ∷ rest) e h = sym (met_all bs target) ∙ ap ended e
