use Rattle.rtsp_traits.specs.Devices.{devices}
use Rattle.rtsp_guard.proofs.QuietPieces.{pieces_change_nothing}
use Rattle.rtsp_guard.proofs.laws.law_pieces_change_nothing.Goals as goal

pub returns : goal.returns
returns g c = pieces_change_nothing (devices g.B.Binder.calls g.W.Words.calls g.C.Clock.tells g.P.Plays.calls g.S.Shares.calls)
