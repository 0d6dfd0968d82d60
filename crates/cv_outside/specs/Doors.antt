-- What a door means, and what its calls do.
use Rattle.std.specs.Prelude.{◌≡◌, ℕ, ◌+◌, List, [], ◌∷◌, ◌++◌, Option, Some, None}
use Rattle.cv_outside.specs.Causes.{Rose}
use Rattle.cv_outside.specs.declared.link.LinkFail.{LinkFail}
use Rattle.cv_outside.specs.declared.link.LinkFail.TheVariants.{Failed, Memory}

-- how many links were given, and how many given back; those that were given back, where they are told; how often it failed
pub record Doorway (L : Type 0) : Type 0 where
  pub given : ℕ
  pub back : ℕ
  pub returned : Option (List L)
  pub faults : ℕ

module _ {L : Type 0} where
  abbrev pub after_next : Doorway L → Doorway L
  after_next d = record d { given = d.given + 1 }

  abbrev pub with_link : L → Option (List L) → Option (List L)
  with_link link None = None
  with_link link (Some links) = Some (links ++ link ∷ [])

  abbrev pub after_back : Doorway L → L → Doorway L
  after_back d link = record d { back = d.back + 1; returned = with_link link d.returned }

  -- no link was given, for a fault or for want of memory
  abbrev pub GivesNone : Doorway L → Doorway L → LinkFail → Type 0
  GivesNone before now Failed = (now ≡ record before { faults = now.faults }) × Rose before.faults now.faults
  GivesNone before now Memory = now ≡ before
