use Rattle.rtsp_rtp.proofs.Wiring.{all_within}
use Rattle.rtsp_rtp.proofs.laws.law_turn_within.Goals as goal

pub returns : goal.returns
returns g c = λ way. all_within g.S.Sink.calls way c.args.phase c.args.unit_ms
