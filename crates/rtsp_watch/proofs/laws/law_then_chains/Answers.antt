use Rattle.rtsp_traits.specs.Devices.{devices}
use Rattle.rtsp_watch.proofs.GrowthLemmas.{then-chains}
use Rattle.rtsp_watch.proofs.laws.law_then_chains.Goals as goal

pub returns : goal.returns
returns g c = then-chains (devices g.B.Binder.calls g.W.Words.calls g.C.Clock.tells g.P.Plays.calls g.S.Shares.calls)
