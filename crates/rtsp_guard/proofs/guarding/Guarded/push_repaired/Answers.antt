use Rattle.rtsp_guard.proofs.Repaired.{repaired_keeps}
use Rattle.rtsp_guard.proofs.guarding.Guarded.push_repaired.Goals as goal

pub returns-clause-kept : goal.returns-clause-kept
returns-clause-kept g c = (repaired_keeps g.A.Answerer.answers g.A.Answerer.gives_up c.push_repaired_watched.result _ _ _ _ c.push_repaired_watched.ensures.goes_on c.push_repaired_watched.ensures.ends).answerer

pub returns-clause-users : goal.returns-clause-users
returns-clause-users g c = (repaired_keeps g.A.Answerer.answers g.A.Answerer.gives_up c.push_repaired_watched.result _ _ _ _ c.push_repaired_watched.ensures.goes_on c.push_repaired_watched.ensures.ends).users
