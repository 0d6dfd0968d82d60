-- Stores of one log.
use Rattle.std.specs.Prelude.{◌≡◌, []}
use Rattle.fn_tree.specs.History.{History}
use Rattle.cv_store.specs.Stores.{Standing, GoesOn}
use Rattle.cv_store.specs.Turns.{no_turns}

-- two stores of one program, with one name
pub record HaveOneLog (s t : Standing) : Type 0 where
  pub program : t.program ≡ s.program
  pub name : t.name ≡ s.name

-- a store that has seen as much, took no step and appended nothing
pub record IsFork (s t : Standing) : Type 0 where
  pub log : HaveOneLog s t
  pub seen : t.seen ≡ s.seen
  pub mine : t.mine ≡ []
  pub turns : t.turns ≡ no_turns

-- a store that has then seen these entries, and is the same in all else
pub record HasMet (s t : Standing) (h : History) : Type 0 where
  pub log : HaveOneLog s t
  pub mine : t.mine ≡ s.mine
  pub turns : t.turns ≡ s.turns
  pub goes_on : GoesOn s.seen h
  pub seen : t.seen ≡ h
