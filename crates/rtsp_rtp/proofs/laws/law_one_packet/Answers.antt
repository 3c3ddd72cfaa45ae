use Rattle.rtsp_rtp.proofs.Aloneness.{are_one_packet}
use Rattle.rtsp_rtp.proofs.laws.law_one_packet.Goals as goal

pub returns : goal.returns
returns g c = are_one_packet g.S.Sink.calls c.args.phase c.args.unit_ms
