use Rattle.rtsp_watch.specs.Watching.{AnswersWatched, GivesUpWatched}
use Rattle.rtsp_watch.proofs.Behind.{keeps}
use Rattle.rtsp_watch.proofs.watching.Watched.push.Goals as goal

pub returns-clause-kept : goal.returns-clause-kept
returns-clause-kept g c =
    keeps (AnswersWatched g.A.Answerer.answers g.A.Answerer.gives_up) (GivesUpWatched g.A.Answerer.answers g.A.Answerer.gives_up) (λ s t item bytes h. h.1) (λ s t item h. h.1) c.push.result _ _ _ _ c.push.ensures.goes_on c.push.ensures.ends
