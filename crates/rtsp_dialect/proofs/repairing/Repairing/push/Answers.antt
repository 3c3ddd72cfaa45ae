use Rattle.rtsp_dialect.proofs.Along.{pushed_keeps}
use Rattle.rtsp_dialect.proofs.repairing.Repairing.push.Goals as goal

pub returns-clause-kept : goal.returns-clause-kept
returns-clause-kept g c = pushed_keeps g.A.Answerer.answers g.A.Answerer.gives_up c.push.result _ _ _ _ c.push.ensures.goes_on c.push.ensures.ends
