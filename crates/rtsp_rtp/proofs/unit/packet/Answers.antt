use Rattle.std.proofs.Common.{◌∙◌, ◌++◌, ap, List, ℕ}
use Rattle.rtsp_record.specs.Moments.{sent_before}
use Rattle.rtsp_rtp.specs.Packets.{source_of}
use Rattle.rtsp_rtp.proofs.Counting.{header_is}
use Rattle.rtsp_rtp.proofs.unit.packet.Goals as goal

pub returns : goal.returns
returns c =
    let header = header_is c.of-source.result (source_of c.args.track.now c.args.stream.now) c.sent_before.result (sent_before c.args.phase.now) c.args.i c.of-source.ensures.value c.sent_before.ensures in
    c.put.ensures ∙ ap (λ (h : List ℕ). h ++ c.args.payload.now) header
