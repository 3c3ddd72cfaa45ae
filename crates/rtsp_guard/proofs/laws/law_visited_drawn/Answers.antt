use Rattle.rtsp_traits.specs.Devices.{devices}
use Rattle.rtsp_guard.proofs.Drawn.{visited_drawn}
use Rattle.rtsp_guard.proofs.laws.law_visited_drawn.Goals as goal

pub returns : goal.returns
returns g c = visited_drawn (devices g.B.Binder.calls g.W.Words.calls g.C.Clock.tells g.P.Plays.calls g.S.Shares.calls)
