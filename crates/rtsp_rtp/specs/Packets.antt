-- The bytes of an RTP packet (RFC 3550 section 5.1).
use Rattle.std.specs.Prelude.{ℕ, Bool, if◌then◌else◌, ◌+◌, ◌*◌, ◌%◌, ◌^◌, List, ◌∷◌, ◌++◌}
use Rattle.std.specs.Int.{w16, w32, to_be_bytes}
use Rattle.rtsp_record.specs.declared.streams.Stream.{Stream}
use Rattle.rtsp_content.specs.TrackValue.{TrackValue}
use Rattle.rtsp_content.specs.PackingLimits.{packet_count}
use Rattle.rtsp_rtp.specs.declared.source.Source.{Source}

-- the source of a stream of a track
abbrev pub source_of : TrackValue → Stream → Source
source_of t v = record { track = v.track; payload_type = t.payload_type; packing = t.packing; octets = t.octets; ticks = t.ticks; ssrc = v.ssrc; seq = v.seq; rtptime = v.rtptime }

-- the sequence number of the packet after n of its session, modulo 2^16
abbrev pub seq_after : Source → ℕ → ℕ
seq_after x n = (x.seq + n) % 2 ^ 16

-- its timestamp, modulo 2^32
abbrev pub timestamp_after : Source → ℕ → ℕ
timestamp_after x n = (x.rtptime + n * x.ticks) % 2 ^ 32

-- version 2 without padding, extension and contributing sources; no marker, and the payload type; the numbers, most significant byte first
abbrev pub header_of : Source → ℕ → List ℕ
header_of x n = 128 ∷ x.payload_type ∷ to_be_bytes w16 (seq_after x n) ++ to_be_bytes w32 (timestamp_after x n) ++ to_be_bytes w32 x.ssrc

-- the packet after n of its session
abbrev pub packet_of : Source → ℕ → List ℕ → List ℕ
packet_of x n payload = header_of x n ++ payload

-- the payload type with a marker bit in front
abbrev pub kind_of : Source → Bool → ℕ
kind_of x marker = if marker then (x.payload_type + 128) % 2 ^ 8 else x.payload_type

-- the same header of a packet with this marker bit, number and timestamp
abbrev pub marked_header : Source → Bool → ℕ → ℕ → List ℕ
marked_header x marker number timestamp = 128 ∷ kind_of x marker ∷ to_be_bytes w16 number ++ to_be_bytes w32 timestamp ++ to_be_bytes w32 x.ssrc

-- the number of the first packet of a play, where n units were sent before it: each takes as many numbers as it may have packets
abbrev pub first_number : Source → ℕ → ℕ
first_number x n = (x.seq + n * packet_count x.packing) % 2 ^ 16
