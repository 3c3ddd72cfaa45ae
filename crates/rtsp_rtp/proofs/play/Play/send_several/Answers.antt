use Rattle.std.proofs.Common.{◌≡◌, ◌+◌, ◌%◌, ◌^◌, ◌≤◌, ℕ, List, length, ap, sym, ◌∙◌, subst, refl, arith, Option, Some}
use Rattle.std.proofs.lemmas.List.{length-take-le}
use Rattle.rtsp_record.specs.Moments.{sent_before}
use Rattle.rtsp_content.specs.PackingLimits.{unit_len}
use Rattle.rtsp_rtp.specs.declared.part.SlotFault.{SlotFault}
use Rattle.rtsp_rtp.specs.declared.sender_state.SenderState.{SenderState}
use Rattle.rtsp_rtp.specs.Pacing.{first_unit}
use Rattle.rtsp_rtp.specs.Packets.{timestamp_after}
use Rattle.rtsp_rtp.specs.Progress.{phase_of}
use Rattle.rtsp_rtp.specs.SenderStates.{behind_report}
use Rattle.std.proofs.Common.{set}
use Rattle.rtsp_rtp.specs.Turns.{Hears}
use Rattle.rtsp_rtp.proofs.Counting.{timestamp_wraps}
use Rattle.rtsp_rtp.proofs.Sending.{unit_sent}
use Rattle.rtsp_rtp.proofs.play.Play.send_several.Goals as goal
use Rattle.rtsp_rtp.proofs.play.Play.send_several.Goals.{in-Some, in_default}

pub returns-clause-ok : goal.returns-clause-ok
returns-clause-ok g c =
    let calls = g.S.Sink.calls in
    let x = c.args.source.now in
    let y = phase_of c.args.self.now in
    let i = c.args.unit in
    let states = c.args.states.now in
    let room = c.args.room.now in
    let out = c.octets.new.out in
    let parts = c.send_parts-sent in
    let heard = parts.new.sink in
    let told = c.match-sent.sink in
    let fits : c.unit_len.result ≤ length room = omega (arith, c.unit_len.ensures.most, c.requires.room) in
    let full : length out ≡ unit_len x.packing x.octets = c.octets.auto.out ∙ (length-take-le c.unit_len.result room fits ∙ c.unit_len.ensures.value) in
    let stamped : c.timestamp.result ≡ timestamp_after x (sent_before y + i) = c.timestamp.ensures ∙ timestamp_wraps x (sent_before y + i) in
    let hears : Hears calls x.track (first_unit y + i) parts.result.fault heard told = elim c.match-sent.branch [
      | in-Some w ↦ subst (λ (f : Option SlotFault). Hears calls x.track (first_unit y + i) f heard told) (sym w.in-Some.is) (rw w.sink-is w.refuse.ensures)
      | in_default w ↦ subst (λ (f : Option SlotFault). Hears calls x.track (first_unit y + i) f heard told) (sym w.in_default.is) w.sink-is
    ] in
    unit_sent calls y c.args.self.now.unit_ms i x states out c.of.result parts.result.state parts.result.packets parts.result.fault c.set.new.self c.args.sink.now c.octets.new.self heard told c.report_behind-state.new.sink
    c.requires.several full c.in_ok-octets.ensures.ok
    (record {
      number = c.first_number.result;
      timestamp = c.timestamp.result;
      numbered = c.first_number.ensures;
      stamped = stamped;
      sent = parts.ensures.sent;
      start = c.of.ensures;
      state = parts.ensures.state;
      packets = parts.ensures.packets;
      fault = parts.ensures.fault;
    })
    hears c.report_behind-state.ensures.reports
    (c.set.ensures ∙ ap (λ (s : SenderState). set states x.track s) c.report_behind-state.ensures.state)
