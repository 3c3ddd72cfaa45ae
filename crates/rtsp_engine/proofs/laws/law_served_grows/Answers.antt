use Rattle.rtsp_traits.specs.Devices.{devices}
use Rattle.rtsp_engine.proofs.Adding.{served_grows}
use Rattle.rtsp_engine.proofs.laws.law_served_grows.Goals as goal

pub returns : goal.returns
returns g c = served_grows (devices g.B.Binder.calls g.W.Words.calls g.C.Clock.tells g.P.Plays.calls g.S.Shares.calls)
