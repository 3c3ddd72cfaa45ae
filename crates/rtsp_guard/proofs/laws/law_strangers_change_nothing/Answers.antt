use Rattle.rtsp_traits.specs.Devices.{devices}
use Rattle.rtsp_guard.proofs.Strangers.{strangers_change_nothing}
use Rattle.rtsp_guard.proofs.laws.law_strangers_change_nothing.Goals as goal

pub returns : goal.returns
returns g c = strangers_change_nothing (devices g.B.Binder.calls g.W.Words.calls g.C.Clock.tells g.P.Plays.calls g.S.Shares.calls)
