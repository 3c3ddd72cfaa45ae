use Rattle.std.proofs.Common.{◌∙◌, ◌++◌, ◌≡◌, ap, sym, List, [], ◌∷◌, ℕ, ◌+◌, subst, refl}
use Rattle.rtsp_record.specs.Moments.{sent_before}
use Rattle.rtsp_content.specs.declared.packing.Packing.{Packing}
use Rattle.rtsp_content.specs.declared.packing.Packing.TheVariants.{Single}
use Rattle.rtsp_content.specs.PackingLimits.{unit_len}
use Rattle.rtsp_rtp.specs.Sinks.{Sent}
use Rattle.rtsp_rtp.specs.Pacing.{first_unit}
use Rattle.rtsp_rtp.specs.Progress.{phase_of}
use Rattle.rtsp_rtp.specs.Packets.{packet_of}
use Rattle.rtsp_rtp.specs.UnitPackets.{unit_packets, fault_in, states_behind}
use Rattle.rtsp_rtp.specs.Turns.{PacketsSent, Hears, Reports, report_behind}
use Rattle.rtsp_rtp.proofs.Counting.{header_is}
use Rattle.rtsp_rtp.proofs.play.Play.send.Goals as goal

pub returns-in_ok-fill-in-Single-clause-ok : goal.returns-in_ok-fill-in-Single-clause-ok
returns-in_ok-fill-in-Single-clause-ok g c =
    let calls = g.S.Sink.calls in
    let x = c.args.source.now in
    let y = phase_of c.args.self.now in
    let ms = c.args.self.now.unit_ms in
    let i = c.args.unit in
    let filled = c.in_ok-fill-in-Single.ensures.ok in
    let is : Single ≡ x.packing = sym c.in-Single.is in
    let header = header_is x x c.args.self.now.sent c.args.self.now.sent i refl refl in
    let to = c.fill.new.sink in
    let u = c.send.new.self in
    let sent = subst (λ (bytes : List ℕ). Sent calls x.track bytes to u) (filled.packet ∙ ap (λ (h : List ℕ). h ++ filled.payload) header) c.send.ensures in
    let one : PacketsSent calls x.track (packet_of x (sent_before y + i) filled.payload ∷ []) to u = (u, sent, refl) in
    record {
      octets = filled.payload;
      full = filled.full ∙ ap (λ (o : Packing). unit_len o x.octets) is;
      between = to;
      took = filled.took;
      heard = u;
      sent = subst (λ (o : Packing). PacketsSent calls x.track (unit_packets o x (sent_before y) i c.args.states.now filled.payload) to u) is one;
      told = u;
      hears = subst (λ (o : Packing). Hears calls x.track (first_unit y + i) (fault_in o x.ticks filled.payload) u u) is refl;
      reports = subst (λ (o : Packing). Reports calls x.track (report_behind o y ms x i c.args.states.now filled.payload) u u) is refl;
      counted = ap (λ (o : Packing). states_behind o ms x i c.args.states.now filled.payload) is;
    }
