use Rattle.rtsp_rtp.proofs.Wiring.{each_within}
use Rattle.rtsp_rtp.proofs.laws.law_unit_within.Goals as goal

pub returns : goal.returns
returns g c = λ way. each_within g.S.Sink.calls way c.args.phase c.args.unit_ms
