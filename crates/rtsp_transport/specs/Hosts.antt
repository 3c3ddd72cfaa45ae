-- Hosts of addresses.
use Rattle.std.specs.Prelude.{◌≡◌, ◌⊎◌, ℕ, Bool, ◌==◌, ◌||◌, List, [], length}
use Rattle.std.specs.List.{list_any}
use Rattle.rtsp_transport.specs.Peer.{peer_text, is_peer}

-- the host is empty, or the peer's address
abbrev pub AllowsHost : ℕ → List ℕ → Type 0
AllowsHost peer host = (host ≡ []) ⊎ (host ≡ peer_text peer)

-- the same as a Boolean
abbrev pub allows : ℕ → List ℕ → Bool
allows peer host = length host == 0 || is_peer peer host

-- the host has a bracket, as an IPv6 address has
abbrev pub is_bracketed : List ℕ → Bool
is_bracketed host = list_any (λ b. b == 91) host
