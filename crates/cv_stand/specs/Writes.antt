-- What a call writes to a sink.
use Rattle.std.specs.Prelude.{◌≡◌, ◌≢◌, ◌⊎◌, ◌≤◌, ℕ, List, Option, Result, Err, OnOk, OnErr, IfErr}
use Rattle.std.specs.Io.KnownBytes.{Appends}
use Rattle.cv_outside.specs.Causes.{AppendsPart, Rose}
use Rattle.cv_stand.specs.declared.output.PlayFault.{PlayFault}
use Rattle.cv_stand.specs.declared.output.PlayFault.TheVariants.{Write, Memory}

-- all of a text was written, or for a fault a part of it; the count of faults rises just where the answer is Write, and no other fault comes but want of memory
pub record Writes {T : Type 0} (text : List ℕ) (held held' : Option (List ℕ)) (faults faults' : ℕ) (result : Result T PlayFault) : Type 0 where
  pub done : OnOk result (Appends held held' text)
  pub part : OnErr result (AppendsPart held held' text)
  pub fault : IfErr result (λ e. (e ≡ Write) ⊎ (e ≡ Memory))
  pub rose : result ≡ Err Write → Rose faults faults'
  pub kept : result ≢ Err Write → faults' ≡ faults
  pub later : faults ≤ faults'
