-- A packet in its buffer.
use Rattle.std.specs.Prelude.{◌≡◌, ℕ, List, take, drop, length}
use Rattle.rtsp_grammar.specs.declared.message.Frame.{Frame}
use Rattle.rtsp_rtp.specs.declared.source.Source.{Source}
use Rattle.rtsp_rtp.specs.Packets.{packet_of}
use Rattle.rtsp_rtp.specs.Sinks.{Calls, Took}

-- the bytes behind the room for the head of a frame
abbrev pub datagram_in : List ℕ → ℕ → List ℕ
datagram_in buffer len = take len (drop 4 buffer)

-- the packet as what a frame of a channel carries
abbrev pub framed : ℕ → List ℕ → Frame
framed channel packet = record { channel = channel; payload = packet }

-- the packet that follows `sent` others of a source, with the octets that a sink gave for a unit of its track
pub record Filled {S : Type 0} (calls : Calls S) (x : Source) (sent unit : ℕ) (whole : List ℕ) (s u : S) : Type 0 where
  pub payload : List ℕ
  pub full : length payload ≡ x.octets
  pub took : Took calls x.track unit payload s u
  pub packet : whole ≡ packet_of x sent payload
