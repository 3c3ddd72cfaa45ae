use Rattle.rtsp_traits.specs.Devices.{devices}
use Rattle.rtsp_guard.proofs.AtDesk.{repaired_same}
use Rattle.rtsp_guard.proofs.understanding.push_repaired.Goals as goal

pub returns-clause-same : goal.returns-clause-same
returns-clause-same g c =
    repaired_same (devices g.B.Binder.calls g.W.Words.calls g.C.Clock.tells g.P.Plays.calls g.S.Shares.calls) c.push_repaired_guarded.result _ _ _ _ c.push_repaired_guarded.ensures.goes_on c.push_repaired_guarded.ensures.ends
