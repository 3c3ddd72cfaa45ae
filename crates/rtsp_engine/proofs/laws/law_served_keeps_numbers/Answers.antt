use Rattle.rtsp_traits.specs.Devices.{devices}
use Rattle.rtsp_engine.proofs.Cleaning.{served_keeps_numbers}
use Rattle.rtsp_engine.proofs.laws.law_served_keeps_numbers.Goals as goal

pub returns : goal.returns
returns g c = served_keeps_numbers (devices g.B.Binder.calls g.W.Words.calls g.C.Clock.tells g.P.Plays.calls g.S.Shares.calls)
