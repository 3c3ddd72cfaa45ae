use Rattle.rtsp_traits.specs.Devices.{devices}
use Rattle.rtsp_engine.proofs.Cleaning.{served_drawn}
use Rattle.rtsp_engine.proofs.laws.law_served_drawn.Goals as goal

pub returns : goal.returns
returns g c = served_drawn (devices g.B.Binder.calls g.W.Words.calls g.C.Clock.tells g.P.Plays.calls g.S.Shares.calls)
