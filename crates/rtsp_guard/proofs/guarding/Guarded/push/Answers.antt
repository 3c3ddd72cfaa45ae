use Rattle.rtsp_guard.proofs.Behind.{pushed_keeps}
use Rattle.rtsp_guard.proofs.guarding.Guarded.push.Goals as goal

pub returns-clause-kept : goal.returns-clause-kept
returns-clause-kept g c = (pushed_keeps g.A.Answerer.answers g.A.Answerer.gives_up c.push_watched.result _ _ _ _ c.push_watched.ensures.goes_on c.push_watched.ensures.ends).answerer

pub returns-clause-users : goal.returns-clause-users
returns-clause-users g c = (pushed_keeps g.A.Answerer.answers g.A.Answerer.gives_up c.push_watched.result _ _ _ _ c.push_watched.ensures.goes_on c.push_watched.ensures.ends).users
