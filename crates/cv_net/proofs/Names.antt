-- A text spells one address at most.
use Rattle.std.proofs.Common.{ℕ, List, subst}
use Rattle.std.proofs.NetLemmas.Theorems.{IsSocketText_unique}
use Rattle.std.specs.Net.Grammar.{IsSocketText}
use Rattle.std.specs.declared.net.socket_addr.SocketAddr.{SocketAddr}
use Rattle.cv_net.specs.Addresses.{IsLoopback, NamesNone}

pub names_another : (text : List ℕ) (address : SocketAddr) → IsSocketText text address → (IsLoopback address → ⊥) → NamesNone text
names_another text address spelled other found named looped =
    other (subst (λ a. IsLoopback a) (IsSocketText_unique text found address named spelled) looped)
