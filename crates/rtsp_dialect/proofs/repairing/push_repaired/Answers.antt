use Rattle.std.proofs.Common.{rules}
use Rattle.rtsp_dialect.proofs.Along.{taken_behind, faulted_behind}
use Rattle.rtsp_dialect.proofs.repairing.push_repaired.Goals as goal

pub returns-clause-goes_on : goal.returns-clause-goes_on
returns-clause-goes_on g c = taken_behind g.A.Answerer.answers g.A.Answerer.gives_up c.push.result _ _ _ _ _ c.push.new.self c.answerer-1.given.0 (search rules) c.push.ensures.goes_on

pub returns-clause-ends : goal.returns-clause-ends
returns-clause-ends g c = faulted_behind g.A.Answerer.answers g.A.Answerer.gives_up c.push.result _ _ _ _ c.push.new.self c.answerer-1.given.0 (search rules) c.push.ensures.ends
