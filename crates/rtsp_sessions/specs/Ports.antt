-- The pairs of ports, or the single ports, that are tried one after another.
use Rattle.std.specs.Prelude.{ℕ, ◌*◌, Bool, Option}
use Rattle.rtsp_record.specs.declared.holdings.Whole.{Whole}
use Rattle.rtsp_record.specs.Books.{Book}
use Rattle.rtsp_record.specs.Choices.{least_of, from_on, is_pair_free, is_port_free}
use Rattle.rtsp_sessions.specs.declared.udp_ports.UdpPorts.{UdpPorts}
use Rattle.rtsp_sessions.specs.declared.udp_ports.UdpPorts.TheVariants as udp

-- from the first port of one to that of the next
abbrev pub step_of : UdpPorts → ℕ
step_of udp.Pair = 2
step_of udp.Port = 1

-- how many the whole has
abbrev pub count_in : Whole → UdpPorts → ℕ
count_in w udp.Pair = w.pairs
count_in w udp.Port = 2 * w.pairs

-- the one with this first port is free
abbrev pub is_free_at : UdpPorts → Book → ℕ → Bool
is_free_at udp.Pair b p = is_pair_free b p
is_free_at udp.Port b p = is_port_free b p

-- the least free one of the whole not below `from`
abbrev pub least_free : UdpPorts → Whole → Book → ℕ → Option ℕ
least_free ports w b from = least_of (step_of ports) (from_on from (is_free_at ports b)) w.first_port (count_in w ports)
