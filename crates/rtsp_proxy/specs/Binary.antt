-- A header of version 2: the signature, four bytes, and as many as the last two of these say.
use Rattle.std.specs.Prelude.{ℕ, Bool, ◌+◌, ◌*◌, ◌==◌, ◌&&◌, not, nat_lt, List, [], ◌∷◌, take, length, Result, Ok, Err, if◌then◌else◌}
use Rattle.rtsp_proxy.specs.declared.seen.Origin.{Origin}
use Rattle.rtsp_proxy.specs.declared.seen.Origin.TheVariants.{Own, Player}
use Rattle.rtsp_proxy.specs.declared.seen.ProxyFault.{ProxyFault}
use Rattle.rtsp_proxy.specs.declared.seen.ProxyFault.TheVariants.{Malformed, Unknown, NotIpv4, TooLong}
use Rattle.rtsp_proxy.specs.declared.seen.Seen.{Seen}
use Rattle.rtsp_proxy.specs.declared.seen.Seen.TheVariants.{Undecided, Refused, Header}
use Rattle.rtsp_proxy.specs.Line.{header_or}

-- two and four bytes, the most significant first
abbrev pub two : ℕ → ℕ → ℕ
two high low = 256 * high + low

abbrev pub four : ℕ → ℕ → ℕ → ℕ → ℕ
four a b c d = a * 0x1000000 + b * 0x10000 + c * 0x100 + d

-- addresses and ports of TCP over IPv4, and whatever is told besides
abbrev pub player_in : List ℕ → Result Origin ProxyFault
player_in (a ∷ b ∷ c ∷ d ∷ e ∷ f ∷ g ∷ h ∷ high ∷ low ∷ i ∷ j ∷ more) = Ok (Player (four a b c d) (two high low))
player_in body = Err Malformed

-- the balancer's own connection, or one whose family isn't told; or a player's
abbrev pub origin_in : ℕ → ℕ → List ℕ → Result Origin ProxyFault
origin_in verb family body =
    if verb == 0x20 then Ok Own
    else (if family == 0 then Ok Own else (if family == 0x11 then player_in body else Err NotIpv4))

abbrev pub binary_by : ℕ → ℕ → ℕ → List ℕ → Seen
binary_by verb family size body =
    if not (verb == 0x20) && not (verb == 0x21) then Refused Unknown
    else (if nat_lt 2048 size then Refused TooLong
    else (if nat_lt (length body) size then Undecided else header_or (16 + size) (origin_in verb family (take size body))))

-- what follows the signature
abbrev pub binary_of : List ℕ → Seen
binary_of (verb ∷ family ∷ high ∷ low ∷ body) = binary_by verb family (two high low) body
binary_of rest = Undecided
