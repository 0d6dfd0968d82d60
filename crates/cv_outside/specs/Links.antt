-- What a link means, and what its calls do.
use Rattle.std.specs.Prelude.{◌≡◌, ℕ, ◌≤◌, Bool, true, false, List, [], ◌∷◌, ◌++◌, Option, Some, None}
use Rattle.cv_outside.specs.Causes.{Rose}
use Rattle.cv_outside.specs.Traces.{Said, taken, sent}
use Rattle.cv_outside.specs.declared.link.Got.{Got}
use Rattle.cv_outside.specs.declared.link.Got.TheVariants.{Text, Quiet, Closed}
use Rattle.cv_outside.specs.declared.link.LinkFail.{LinkFail}
use Rattle.cv_outside.specs.declared.link.LinkFail.TheVariants.{Failed, Memory}

-- the texts to come, and whether the link closes behind them
pub record Coming : Type 0 where
  pub texts : List (List ℕ)
  pub closing : Bool

-- what is to come and the trace, where these are told; how often the link was quiet, closed and at fault; and
-- whether a call of it may fail
pub record Wire : Type 0 where
  pub coming : Option Coming
  pub trace : Option (List Said)
  pub quiets : ℕ
  pub closings : ℕ
  pub faults : ℕ
  pub may_fail : Bool

-- no count falls, and a link that never fails stays one
pub record IsLater (before now : Wire) : Type 0 where
  pub quiets : before.quiets ≤ now.quiets
  pub closings : before.closings ≤ now.closings
  pub faults : before.faults ≤ now.faults
  pub may_fail : now.may_fail ≡ before.may_fail

-- a trace, where it is told, with what passed behind it
abbrev pub with_said : List Said → Option (List Said) → Option (List Said)
with_said more None = None
with_said more (Some trace) = Some (trace ++ more)

-- the text is the first to come, and comes no more
abbrev pub TakesFirst : Option Coming → List ℕ → Option Coming → Type 0
TakesFirst None text after = after ≡ None
TakesFirst (Some coming) text after = (rest : List (List ℕ)) × (coming.texts ≡ text ∷ rest) × (after ≡ Some (record coming { texts = rest }))

-- no text is to come, and the link is closing or isn't
abbrev pub IsDry : Option Coming → (closing : Bool) → Type 0
IsDry None closing = Unit {0}
IsDry (Some coming) closing = (coming.texts ≡ []) × (coming.closing ≡ closing)

-- what is told stays
abbrev pub IsSameTold : Wire → Wire → Type 0
IsSameTold before now = (now.coming ≡ before.coming) × (now.trace ≡ before.trace)

abbrev pub Receives : Wire → Wire → Got → Type 0
Receives before now (Text text) =
    TakesFirst before.coming text now.coming × (now.trace ≡ with_said (taken text ∷ []) before.trace) × (now.closings ≡ before.closings)
Receives before now Quiet = IsDry before.coming false × IsSameTold before now × (now.closings ≡ before.closings) × Rose before.quiets now.quiets
Receives before now Closed = IsDry before.coming true × IsSameTold before now × Rose before.closings now.closings

abbrev pub Sends : Wire → Wire → List ℕ → Type 0
Sends before now text =
    (now.coming ≡ before.coming) × (now.trace ≡ with_said (sent text ∷ []) before.trace) × (now.closings ≡ before.closings)

-- nothing was taken or sent
abbrev pub Fails : Wire → Wire → LinkFail → Type 0
Fails before now Failed =
    IsSameTold before now × (now.closings ≡ before.closings) × Rose before.faults now.faults × (before.may_fail ≡ true)
Fails before now Memory = IsSameTold before now × (now.closings ≡ before.closings)

-- nothing passed, where the trace is told
abbrev pub IsBlank : Option (List Said) → Type 0
IsBlank None = Unit {0}
IsBlank (Some trace) = trace ≡ []

-- no call of the link was answered yet
pub record IsUnused (wire : Wire) : Type 0 where
  pub trace : IsBlank wire.trace
  pub quiets : wire.quiets ≡ 0
  pub closings : wire.closings ≡ 0
  pub faults : wire.faults ≡ 0
