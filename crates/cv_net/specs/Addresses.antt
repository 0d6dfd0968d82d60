-- The addresses that a door may listen on.
use Rattle.std.specs.Prelude.{ℕ, List}
use Rattle.std.specs.Net.Addr.{MatchIp, IsLoopbackV4, IsLoopbackV6}
use Rattle.std.specs.Net.Grammar.{IsSocketText}
use Rattle.std.specs.Net.Socket.{socket_ip}
use Rattle.std.specs.declared.net.socket_addr.SocketAddr.{SocketAddr}

-- the address is in 127.0.0.0/8, or is ::1
abbrev pub IsLoopback : SocketAddr → Type 0
IsLoopback address = MatchIp (socket_ip address) IsLoopbackV4 IsLoopbackV6

-- the text spells no loopback address
abbrev pub NamesNone : List ℕ → Type 0
NamesNone text = (address : SocketAddr) → IsSocketText text address → IsLoopback address → ⊥
