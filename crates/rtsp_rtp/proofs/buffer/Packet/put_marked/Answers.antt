use Rattle.std.proofs.Common.{◌∙◌, ◌++◌, ap, refl, List, ℕ, ◌-◌, ◌+◌, length}
use Rattle.rtsp_rtp.specs.Packets.{marked_header}
use Rattle.rtsp_rtp.proofs.Placing.{placed}
use Rattle.rtsp_rtp.proofs.buffer.Packet.put_marked.Goals as goal

pub returns : goal.returns
returns c =
    let header = marked_header c.args.source.now c.args.header.marker c.args.header.number c.args.header.timestamp in
    let payload = c.copy_from_slice.ensures.after in
    placed c.self.inside.buffer header c.put_marked_header.new.buffer c.copy_from_slice.new.self (16 + length c.args.payload.now - 16) (length c.args.payload.now) c.self.told refl c.put_marked_header.ensures (ap (λ (l : List ℕ). length l) payload) c.requires
    ∙ ap (λ (l : List ℕ). header ++ l) payload
