-- The sockets of an address.
use Rattle.std.specs.Prelude.{◌≡◌, ℕ, ◌∷◌, length}
use Rattle.std.specs.Option.{option_to_list}
use Rattle.rtsp_sockets.specs.declared.ports.PortSockets.{PortSockets}

-- how many sockets an address has
abbrev pub sockets_in : PortSockets → ℕ
sockets_in s = length (s.rtp ∷ option_to_list s.rtcp)

-- they are those that were opened for so many ports from this one on, under this admission
pub record IsOpenedFor (s : PortSockets) (admission port ports : ℕ) : Type 0 where
  pub under : s.admission ≡ admission
  pub first : s.port ≡ port
  pub each : sockets_in s ≡ ports
