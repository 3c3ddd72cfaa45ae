use Rattle.rtsp_dialect.specs.Repairing.{AnswersRepaired, GivesUpRepaired}
use Rattle.rtsp_watch.specs.Watching.{AnswersWatched, GivesUpWatched}
use Rattle.rtsp_watch.proofs.Behind.{keeps, repaired_keeps}
use Rattle.rtsp_watch.proofs.watching.Watched.push_repaired.Goals as goal

pub returns-clause-kept : goal.returns-clause-kept
returns-clause-kept g c =
    keeps (AnswersRepaired (AnswersWatched g.A.Answerer.answers g.A.Answerer.gives_up) (GivesUpWatched g.A.Answerer.answers g.A.Answerer.gives_up)) (GivesUpRepaired (AnswersWatched g.A.Answerer.answers g.A.Answerer.gives_up) (GivesUpWatched g.A.Answerer.answers g.A.Answerer.gives_up))
    (λ s t item bytes h. h.1) (repaired_keeps g.A.Answerer.answers g.A.Answerer.gives_up) c.push_repaired.result _ _ _ _ c.push_repaired.ensures.goes_on c.push_repaired.ensures.ends
