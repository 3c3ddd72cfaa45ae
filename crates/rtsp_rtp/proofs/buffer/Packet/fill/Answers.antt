use Rattle.std.proofs.Common.{◌≡◌, ◌∙◌, refl, ◌-◌, ◌+◌, ◌≤◌, length}
use Rattle.std.proofs.lemmas.Result.{on_ok_weaker}
use Rattle.rtsp_content.specs.declared.limits.TheConstants.{MAX_OCTETS}
use Rattle.rtsp_rtp.specs.Packets.{header_of}
use Rattle.rtsp_rtp.proofs.Placing.{placed, payload_room, wide}
use Rattle.rtsp_rtp.proofs.buffer.Packet.fill.Goals as goal

pub returns-clause-ok : goal.returns-clause-ok
returns-clause-ok g c =
    let header = header_of c.args.source.now c.args.sent in
    let y = c.put_header.new.buffer in
    let fits : c.args.source.now.octets ≤ MAX_OCTETS = c.requires in
    let full : length c.octets.new.out ≡ c.args.source.now.octets =
    c.octets.auto.out ∙ payload_room y c.args.source.now.octets (wide c.self.inside.buffer header y c.self.told refl c.put_header.ensures) fits
    in
    on_ok_weaker c.octets.result
    (λ took. record {
      payload = c.octets.new.out;
      full = full;
      took = took;
      packet = placed c.self.inside.buffer header y c.octets.new.out (16 + c.args.source.now.octets - 16) c.args.source.now.octets c.self.told refl c.put_header.ensures full fits;
    })
    c.octets.ensures.ok
