-- Sender reports: RTCP by which a stream tells what its timestamps are at a moment (RFC 3550 section 6.4.1).
use Rattle.std.specs.Prelude.{ℕ, ◌+◌, ◌*◌, ◌/◌, ◌%◌, ◌^◌, ◌-◌, min, List, [], ◌∷◌, ◌++◌}
use Rattle.std.specs.Int.{w32, to_be_bytes}
use Rattle.rtsp_record.specs.declared.phases.Phase.{Phase}
use Rattle.rtsp_record.specs.Moments.{sent_before}
use Rattle.rtsp_rtp.specs.declared.source.Source.{Source}
use Rattle.rtsp_rtp.specs.declared.sender_state.SenderState.{SenderState}
use Rattle.rtsp_rtp.specs.Packets.{timestamp_after}
use Rattle.rtsp_rtp.specs.Goodbyes.{rtcp_packet, description}

-- a moment in milliseconds, as seconds and their fraction; it counts from the server's beginning, so the first bit is 0 (section 4)
abbrev pub ntp_of : ℕ → List ℕ
ntp_of wall = to_be_bytes w32 (wall / 1000 % 2 ^ 31) ++ to_be_bytes w32 (wall % 1000 * 4294967)

-- a sender's report (200) without report blocks: the moment, the timestamp then, and what was sent so far; and the name
abbrev pub report_of : Source → ℕ → ℕ → SenderState → List ℕ
report_of x wall timestamp s =
    rtcp_packet 0 200 6 (to_be_bytes w32 x.ssrc ++ ntp_of wall ++ to_be_bytes w32 timestamp ++ to_be_bytes w32 s.packets ++ to_be_bytes w32 s.octets)
    ++ description x.ssrc

-- the moment at which a unit of a play that began then is due
abbrev pub due_moment : ℕ → ℕ → ℕ → ℕ
due_moment begun unit_ms i = min (begun + i * unit_ms) (2 ^ 64 - 1)

-- the report behind the unit i of a play: when it was due, and its timestamp
abbrev pub unit_report : ℕ → ℕ → ℕ → Source → ℕ → SenderState → List ℕ
unit_report begun unit_ms before x i s = report_of x (due_moment begun unit_ms i) (timestamp_after x (before + i)) s
