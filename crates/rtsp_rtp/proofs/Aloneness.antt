-- A unit of a single packet is sent as that packet, and no more.
use Rattle.std.proofs.Common.{◌≡◌, ℕ, ◌+◌, List, [], ◌∷◌, refl, sym, ap, ◌∙◌, subst, Option}
use Rattle.rtsp_record.specs.declared.phases.Phase.{Phase}
use Rattle.rtsp_record.specs.Moments.{sent_before}
use Rattle.rtsp_content.specs.declared.packing.Packing.{Packing}
use Rattle.rtsp_content.specs.declared.packing.Packing.TheVariants.{Single}
use Rattle.rtsp_content.specs.PackingLimits.{unit_len}
use Rattle.rtsp_rtp.specs.declared.source.Source.{Source}
use Rattle.rtsp_rtp.specs.declared.sender_state.SenderState.{SenderState}
use Rattle.rtsp_rtp.specs.Packets.{packet_of}
use Rattle.rtsp_rtp.specs.UnitPackets.{unit_packets, fault_in, states_behind}
use Rattle.rtsp_rtp.specs.Sinks.{Calls, Sent}
use Rattle.rtsp_rtp.specs.Pacing.{first_unit}
use Rattle.rtsp_rtp.specs.Turns.{PacketsSent, Hears, Reports, UnitSent, report_behind}
use Rattle.rtsp_rtp.specs.Alone.{PacketSent, AreOnePacket}

module _ {S : Type 0} (calls : Calls S) (phase : Phase) (unit_ms i : ℕ) (x : Source) (states after : List SenderState) (s u : S) (single : x.packing ≡ Single) where
  only_that : UnitSent calls phase unit_ms i x states after s u → PacketSent calls phase i x s u × (after ≡ states)
  only_that unit =
      let one : PacketsSent calls x.track (packet_of x (sent_before phase + i) unit.octets ∷ []) unit.between unit.heard =
      subst (λ (o : Packing). PacketsSent calls x.track (unit_packets o x (sent_before phase) i states unit.octets) unit.between unit.heard) single unit.sent
      in
      let told : unit.told ≡ unit.heard = subst (λ (o : Packing). Hears calls x.track (first_unit phase + i) (fault_in o x.ticks unit.octets) unit.heard unit.told) single unit.hears in
      let done : u ≡ unit.told = subst (λ (o : Packing). Reports calls x.track (report_behind o phase unit_ms x i states unit.octets) unit.told u) single unit.reports in
      let same : u ≡ one.0 = done ∙ (told ∙ one.2) in (
        record {
          payload = unit.octets;
          full = unit.full ∙ ap (λ (o : Packing). unit_len o x.octets) single;
          between = unit.between;
          took = unit.took;
          sent = subst (λ (v : S). Sent calls x.track (packet_of x (sent_before phase + i) unit.octets) unit.between v) (sym same) one.1;
        },
        unit.counted ∙ ap (λ (o : Packing). states_behind o unit_ms x i states unit.octets) single,
      )

  that_is_enough : PacketSent calls phase i x s u → after ≡ states → UnitSent calls phase unit_ms i x states after s u
  that_is_enough packet kept =
      let one : PacketsSent calls x.track (packet_of x (sent_before phase + i) packet.payload ∷ []) packet.between u = (u, packet.sent, refl) in
      let is = sym single in
      record {
        octets = packet.payload;
        full = packet.full ∙ ap (λ (o : Packing). unit_len o x.octets) is;
        between = packet.between;
        took = packet.took;
        heard = u;
        sent = subst (λ (o : Packing). PacketsSent calls x.track (unit_packets o x (sent_before phase) i states packet.payload) packet.between u) is one;
        told = u;
        hears = subst (λ (o : Packing). Hears calls x.track (first_unit phase + i) (fault_in o x.ticks packet.payload) u u) is refl;
        reports = subst (λ (o : Packing). Reports calls x.track (report_behind o phase unit_ms x i states packet.payload) u u) is refl;
        counted = kept ∙ ap (λ (o : Packing). states_behind o unit_ms x i states packet.payload) is;
      }

pub are_one_packet : {S : Type 0} (calls : Calls S) (phase : Phase) (unit_ms : ℕ) → AreOnePacket calls phase unit_ms
are_one_packet calls phase unit_ms i x states after s u single = record {
  only = only_that calls phase unit_ms i x states after s u single;
  enough = that_is_enough calls phase unit_ms i x states after s u single;
}
