-- Counts of atomic steps.
use Rattle.std.specs.Prelude.{◌≡◌, ◌⊎◌, ℕ, ◌+◌, ◌-◌, ◌^◌, nat_lt, if◌then◌else◌, Result, Ok, Err}
use Rattle.cv_store.specs.declared.turns.Turns.{Turns}

-- one more, as far as it can be counted
abbrev pub one_more : ℕ → ℕ
one_more n = if nat_lt n (2 ^ 64 - 1) then n + 1 else n

abbrev pub no_turns : Turns
no_turns = record { begins = 0; reads = 0; commits = 0; tails = 0; looks = 0; keeps = 0 }

-- ---- what one step more counts

abbrev pub after_begin : Turns → Turns
after_begin t = record t { begins = one_more t.begins }

abbrev pub after_read : Turns → Turns
after_read t = record t { reads = one_more t.reads }

abbrev pub after_commit : Turns → Turns
after_commit t = record t { commits = one_more t.commits }

abbrev pub after_tail : Turns → Turns
after_tail t = record t { tails = one_more t.tails }

abbrev pub after_look : Turns → Turns
after_look t = record t { looks = one_more t.looks }

abbrev pub after_keep : Turns → Turns
after_keep t = record t { keeps = one_more t.keeps }

-- ---- what calls count

-- a step of this kind, or none
abbrev pub AtMostOneTurn : (after : Turns → Turns) → (s t : Turns) → Type 0
AtMostOneTurn after s t = (t ≡ after s) ⊎ (t ≡ s)

-- one step of this kind, or at most one for want of memory
abbrev pub OneTurn : {A E : Type 0} → (after : Turns → Turns) → (s t : Turns) → Result A E → Type 0
OneTurn after s t (Ok x) = t ≡ after s
OneTurn after s t (Err e) = AtMostOneTurn after s t

-- steps that neither begin nor commit nor ask for a tail
pub record OnlyAnswers (s t : Turns) : Type 0 where
  pub begins : t.begins ≡ s.begins
  pub commits : t.commits ≡ s.commits
  pub tails : t.tails ≡ s.tails
