use Rattle.rtsp_traits.specs.Devices.{devices}
use Rattle.rtsp_guard.proofs.AtDesk.{changes_nothing}
use Rattle.rtsp_guard.proofs.laws.law_changes_nothing.Goals as goal

pub returns : goal.returns
returns g c = changes_nothing (devices g.B.Binder.calls g.W.Words.calls g.C.Clock.tells g.P.Plays.calls g.S.Shares.calls)
