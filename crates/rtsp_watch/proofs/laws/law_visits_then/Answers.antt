use Rattle.rtsp_traits.specs.Devices.{devices}
use Rattle.rtsp_watch.proofs.GrowthLemmas.{visits-then}
use Rattle.rtsp_watch.proofs.laws.law_visits_then.Goals as goal

pub returns : goal.returns
returns g c = visits-then (devices g.B.Binder.calls g.W.Words.calls g.C.Clock.tells g.P.Plays.calls g.S.Shares.calls)
