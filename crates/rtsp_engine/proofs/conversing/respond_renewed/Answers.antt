use Rattle.rtsp_engine.proofs.Numbering.{plan_names}
use Rattle.rtsp_engine.proofs.conversing.respond_renewed.Goals as goal

pub conduct-requires-clause-names : goal.conduct-requires-clause-names
conduct-requires-clause-names g c = plan_names _ _ _ _ _ c.in-Ok.plan c.in-Ok.ensures.value
