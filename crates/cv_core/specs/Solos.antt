-- What a store over a core of its own means.
use Rattle.std.specs.Prelude.{ℕ, drop, [], ◌∷◌, refl}
use Rattle.std.specs.Coded.{Coded, code_by, coded×, coded_ℕ}
use Rattle.cv_store.specs.Stores.{Standing}
use Rattle.cv_store.specs.contracts.turns.Turns as turns_row
use Rattle.cv_store.specs.declared.turns.Turns.{Turns}
use Rattle.cv_core.specs.Cores.{State, state_code, standing}

-- a core, the length that its log had when the store was made, and the steps that were taken since
pub record Solo : Type 0 where
  pub core : State
  pub start : ℕ
  pub turns : Turns

abbrev pub solo_code : Coded Solo
solo_code = code_by (State × (ℕ × Turns)) (coded× state_code (coded× coded_ℕ turns_row.the_row.coded)) (λ s. (s.core, (s.start, s.turns))) (λ p. record { core = p.0; start = p.1.0; turns = p.1.1 }) (λ _. refl)

-- it has seen the whole log, the entries after its start are its own, and it is named by its start
abbrev pub stands_of : Solo → Standing
stands_of s = standing (s.start ∷ []) (drop s.start s.core.log) s.turns s.core
