-- A track whose units are single packets: what is sent of it, as it was before there were units of several.
use Rattle.std.specs.Prelude.{◌≡◌, ℕ, ◌+◌, List, length}
use Rattle.rtsp_record.specs.declared.phases.Phase.{Phase}
use Rattle.rtsp_record.specs.Moments.{sent_before}
use Rattle.rtsp_content.specs.declared.packing.Packing.TheVariants.{Single}
use Rattle.rtsp_rtp.specs.declared.source.Source.{Source}
use Rattle.rtsp_rtp.specs.declared.sender_state.SenderState.{SenderState}
use Rattle.rtsp_rtp.specs.Packets.{packet_of}
use Rattle.rtsp_rtp.specs.Sinks.{Calls, Took, Sent}
use Rattle.rtsp_rtp.specs.Pacing.{first_unit}
use Rattle.rtsp_rtp.specs.Turns.{UnitSent}

-- the packet of the unit i of the play and a source was sent, with the octets of the unit as its payload, and nothing else happened
pub record PacketSent {S : Type 0} (calls : Calls S) (phase : Phase) (i : ℕ) (x : Source) (s u : S) : Type 0 where
  pub payload : List ℕ
  pub full : length payload ≡ x.octets
  pub between : S
  pub took : Took calls x.track (first_unit phase + i) payload s between
  pub sent : Sent calls x.track (packet_of x (sent_before phase + i) payload) between u

-- a unit of a single packet that was sent is that packet, and no more; and the other way
pub record IsOnePacket {S : Type 0} (calls : Calls S) (phase : Phase) (unit_ms i : ℕ) (x : Source) (states after : List SenderState) (s u : S) : Type 0 where
  pub only : UnitSent calls phase unit_ms i x states after s u → PacketSent calls phase i x s u × (after ≡ states)
  pub enough : PacketSent calls phase i x s u → after ≡ states → UnitSent calls phase unit_ms i x states after s u

abbrev pub AreOnePacket : {S : Type 0} → Calls S → Phase → ℕ → Type 0
AreOnePacket {S} calls phase unit_ms = (i : ℕ) (x : Source) (states after : List SenderState) (s u : S) → x.packing ≡ Single → IsOnePacket calls phase unit_ms i x states after s u
