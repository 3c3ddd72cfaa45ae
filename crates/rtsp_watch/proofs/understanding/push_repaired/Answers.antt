use Rattle.rtsp_traits.specs.Devices.{devices}
use Rattle.rtsp_watch.proofs.Desks.{pushed_same}
use Rattle.rtsp_watch.proofs.understanding.push_repaired.Goals as goal

pub returns-clause-same : goal.returns-clause-same
returns-clause-same g c = pushed_same (devices g.B.Binder.calls g.W.Words.calls g.C.Clock.tells g.P.Plays.calls g.S.Shares.calls) c.push_repaired_watched.result _ _ _ _ c.push_repaired_watched.ensures.goes_on c.push_repaired_watched.ensures.ends
