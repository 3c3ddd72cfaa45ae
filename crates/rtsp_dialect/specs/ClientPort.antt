-- The ports of a client in RTSP 1.0 (RFC 2326 section 12.39, client_port), and in 2.0 (RFC 7826 section 18.54, dest_addr).
use Rattle.std.specs.Prelude.{ℕ, Bool, true, false, ◌||◌, ◌&&◌, not, is_some, filter, map, List, [], ◌∷◌, ◌++◌, codes, Option, Some, None, if◌then◌else◌}
use Rattle.std.specs.List.{list_any}
use Rattle.rtsp_text.specs.Options.{◌>>=◌}
use Rattle.rtsp_text.specs.SplitOnce.{split_once}
use Rattle.rtsp_transport.specs.Address.{port_of}
use Rattle.rtsp_transport.specs.Names.{is_named, is_udp}
use Rattle.rtsp_transport.specs.declared.spec.Parameter.{Parameter}
use Rattle.rtsp_transport.specs.declared.spec.Spec.{Spec}

-- two ports with a dash between them, RTP's and RTCP's, as they are written
unfoldable pub port_pair : List ℕ → Option (List ℕ × List ℕ)
port_pair text = do
  parts ← split_once 45 text
  rtp ← port_of parts.0
  rtcp ← port_of parts.1
  Some parts

abbrev pub is_client_port : Parameter → Bool
is_client_port p = is_named p.name (codes "client_port")

-- the two ports of a client_port
unfoldable pub client_ports : Parameter → Option (List ℕ × List ℕ)
client_ports p = if is_client_port p then p.value >>= port_pair else None

abbrev pub has_ports : Parameter → Bool
has_ports p = is_some (client_ports p)

-- an address in 2.0 or in 1.0, or a client_port that isn't two ports
unfoldable pub is_unclear : Parameter → Bool
is_unclear p = (is_named p.name (codes "dest_addr") || is_named p.name (codes "destination")) || (is_client_port p && not (has_ports p))

-- there is exactly one
abbrev pub is_single : List Parameter → Bool
is_single [] = false
is_single (p ∷ []) = true
is_single (p ∷ q ∷ parameters) = false

-- the client's ports are named once, as two, and no address is
unfoldable pub has_ports_alone : List Parameter → Bool
has_ports_alone parameters = is_single (filter has_ports parameters) && not (list_any is_unclear parameters)

-- over UDP, with RTSP 1.0's ports in place of an address
abbrev pub is_old : Spec → Bool
is_old spec = is_udp spec.protocol && has_ports_alone spec.parameters

-- two quoted addresses without hosts, joined by a slash
abbrev pub addresses_text : List ℕ × List ℕ → List ℕ
addresses_text ports = codes "\":" ++ ports.0 ++ codes "\"/\":" ++ ports.1 ++ codes "\""

-- the address that says the same as two ports
abbrev pub address_or : Parameter → Option (List ℕ × List ℕ) → Parameter
address_or p None = p
address_or p (Some ports) = record { name = codes "dest_addr"; value = Some (addresses_text ports) }

abbrev pub repaired_parameter : Parameter → Parameter
repaired_parameter p = address_or p (client_ports p)

-- the specification in the terms of 2.0
abbrev pub repaired_spec : Spec → Spec
repaired_spec spec = if is_old spec then record spec { parameters = map repaired_parameter spec.parameters } else spec
