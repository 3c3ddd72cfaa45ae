-- What a receipt shows.
use Rattle.std.specs.Prelude.{ℕ, List, filter_map, option_map, Option, Some, None, Result, Ok, Err}
use Rattle.rtsp_record.specs.declared.holdings.Thing.{Thing}
use Rattle.rtsp_record.specs.declared.holdings.Thing.TheVariants.{Pair, Port}
use Rattle.rtsp_record.specs.declared.changes.Record.{Record}
use Rattle.rtsp_record.specs.declared.changes.Record.TheVariants.{Free}
use Rattle.rtsp_sessions.specs.declared.udp_ports.UdpPorts.{UdpPorts}
use Rattle.rtsp_sessions.specs.declared.udp_ports.UdpPorts.TheVariants as udp

-- the first port of a thing that is such ports
abbrev pub port_as : UdpPorts → Thing → Option ℕ
port_as udp.Pair (Pair p) = Some p
port_as udp.Port (Port p) = Some p
port_as wanted x = None

-- what a record gives back of such ports, by its first port, with the admission that held it
abbrev pub freed_as : UdpPorts → Record → Option (ℕ × ℕ)
freed_as wanted (Free h) = option_map (λ p. (h.admission, p)) (port_as wanted h.thing)
freed_as wanted r = None

-- the pairs that were given back, in order, each with its admission
abbrev pub freed_pairs : List Record → List (ℕ × ℕ)
freed_pairs rs = filter_map (freed_as udp.Pair) rs

-- the ports that were given back, in order, each with its admission
abbrev pub freed_ports : List Record → List (ℕ × ℕ)
freed_ports rs = filter_map (freed_as udp.Port) rs

-- an answer with its records: those of the receipt that it filled
abbrev pub filled : {X E : Type 0} → Result X E → List Record → Result (List Record) E
filled (Ok done) rs = Ok rs
filled (Err refusal) rs = Err refusal
