use Rattle.std.proofs.Common.{subst}
use Rattle.std.specs.Prelude.{IfNone}
use Rattle.rtsp_rtp.specs.Pacing.{Pacing}
use Rattle.rtsp_rtp.specs.Leaving.{IsNeverLeft}
use Rattle.rtsp_rtp.proofs.Departing.{never_left}
use Rattle.rtsp_rtp.proofs.pacer.Pacer.left_at.Goals as goal

pub returns-clause-none : goal.returns-clause-none
returns-clause-none c =
    subst (λ (q : Pacing). IfNone c.left_for.result (IsNeverLeft q c.args.session c.args.phase.now)) c.self.view_is
    (never_left _ c.args.session c.args.phase.now c.left_for.result c.left_for.ensures.none)
