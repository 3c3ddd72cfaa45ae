use Rattle.std.proofs.Common.{rules}
use Rattle.rtsp_watch.specs.Watching.{AnswersWatched, GivesUpWatched}
use Rattle.rtsp_watch.proofs.Behind.{taken, faulted}
use Rattle.rtsp_watch.proofs.watching.push_watched.Goals as goal

pub returns-clause-goes_on : goal.returns-clause-goes_on
returns-clause-goes_on g c =
    taken (AnswersWatched g.A.Answerer.answers g.A.Answerer.gives_up) (GivesUpWatched g.A.Answerer.answers g.A.Answerer.gives_up) g.A.Answerer.answers g.A.Answerer.gives_up (λ s t item bytes h. h.0) (λ s t item h. h.0) c.push.result _ _ _ _ _ c.push.new.self c.answerer-1.given.0 (search rules) c.push.ensures.goes_on

pub returns-clause-ends : goal.returns-clause-ends
returns-clause-ends g c =
    faulted (AnswersWatched g.A.Answerer.answers g.A.Answerer.gives_up) (GivesUpWatched g.A.Answerer.answers g.A.Answerer.gives_up) g.A.Answerer.answers g.A.Answerer.gives_up (λ s t item bytes h. h.0) (λ s t item h. h.0) c.push.result _ _ _ _ c.push.new.self c.answerer-1.given.0 (search rules) c.push.ensures.ends
