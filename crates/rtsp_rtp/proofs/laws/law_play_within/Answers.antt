use Rattle.rtsp_rtp.proofs.Playing.{play_within}
use Rattle.rtsp_rtp.proofs.laws.law_play_within.Goals as goal

pub returns : goal.returns
returns g c = λ way. play_within g.S.Sink.calls way c.args.pacer.now c.told.ensures
