use Rattle.std.proofs.Common.{subst}
use Rattle.rtsp_rtp.specs.Pacing.{Pacing, IsPacing}
use Rattle.rtsp_rtp.proofs.pacer.Pacer.told.Goals as goal

pub returns : goal.returns
returns c = subst (λ (p : Pacing). IsPacing p) c.self.view_is c.self.invariant.pacing
