-- What the streams of a play have sent in it, whose units have several packets.
use Rattle.std.specs.Prelude.{ℕ, ◌+◌, ◌-◌, ◌%◌, ◌^◌, Bool, ◌&&◌, nat_lt, nat_le, if◌then◌else◌, List, [], ◌∷◌, replicate, set, get_or}
use Rattle.std.specs.Int.{div_ceil}
use Rattle.rtsp_content.specs.declared.limits.TheConstants.{MAX_TRACKS}
use Rattle.rtsp_rtp.specs.declared.part.Part.{Part}
use Rattle.rtsp_rtp.specs.declared.sender_state.SenderState.{SenderState}

-- a stream that has sent nothing
abbrev pub unsent_state : SenderState
unsent_state = record { packets = 0; octets = 0; reports_from = 0 }

-- of each track, by its place in the presentation
abbrev pub unsent_states : List SenderState
unsent_states = replicate MAX_TRACKS unsent_state

abbrev pub state_of : List SenderState → ℕ → SenderState
state_of states track = get_or states track unsent_state

-- with one packet more, and with several; modulo 2^32 (RFC 3550 section 6.4.1)
abbrev pub counted : SenderState → Part → SenderState
counted s p = record s { packets = (s.packets + 1) % 2 ^ 32; octets = (s.octets + (p.end - p.start)) % 2 ^ 32 }

abbrev pub counted_all : SenderState → List Part → SenderState
counted_all s [] = s
counted_all s (p ∷ ps) = counted_all (counted s p) ps

-- every how many units a stream reports: once a second, or a little less often
abbrev pub report_every : ℕ → ℕ
report_every unit_ms = div_ceil 1000 unit_ms

-- a report goes behind a unit that has packets, if none went behind the units before it for a second
abbrev pub is_reporting : SenderState → ℕ → ℕ → Bool
is_reporting s i packets = nat_lt 0 packets && nat_le s.reports_from i

-- the state behind the unit i of a play with so many packets, which are counted
abbrev pub behind_report : ℕ → SenderState → ℕ → ℕ → SenderState
behind_report unit_ms s i packets = if is_reporting s i packets then record s { reports_from = i + report_every unit_ms } else s
