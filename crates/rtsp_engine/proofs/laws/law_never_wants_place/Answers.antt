use Rattle.rtsp_traits.specs.Devices.{devices}
use Rattle.rtsp_engine.proofs.Sharing.{never_wants_place}
use Rattle.rtsp_engine.proofs.laws.law_never_wants_place.Goals as goal

pub returns : goal.returns
returns g c = never_wants_place (devices g.B.Binder.calls g.W.Words.calls g.C.Clock.tells g.P.Plays.calls g.S.Shares.calls)
