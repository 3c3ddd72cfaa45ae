use Rattle.std.proofs.Common.{◌∙◌, ◌++◌, ap, refl, List, ℕ, ◌-◌, ◌+◌, length}
use Rattle.rtsp_rtp.specs.Packets.{header_of}
use Rattle.rtsp_rtp.proofs.Placing.{placed}
use Rattle.rtsp_rtp.proofs.buffer.Packet.put.Goals as goal

pub returns : goal.returns
returns c =
    let header = header_of c.args.source.now c.args.sent in
    let payload = c.copy_from_slice.ensures.after in
    placed c.self.inside.buffer header c.put_header.new.buffer c.copy_from_slice.new.self (16 + length c.args.payload.now - 16) (length c.args.payload.now) c.self.told refl c.put_header.ensures (ap (λ (l : List ℕ). length l) payload) c.requires
    ∙ ap (λ (l : List ℕ). header ++ l) payload
