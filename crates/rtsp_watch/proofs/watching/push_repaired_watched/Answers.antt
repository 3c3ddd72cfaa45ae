use Rattle.std.proofs.Common.{rules}
use Rattle.rtsp_dialect.specs.Repairing.{AnswersRepaired, GivesUpRepaired}
use Rattle.rtsp_watch.specs.Watching.{AnswersWatched, GivesUpWatched}
use Rattle.rtsp_watch.proofs.Behind.{taken, faulted, repaired_gives_up}
use Rattle.rtsp_watch.proofs.watching.push_repaired_watched.Goals as goal

pub returns-clause-goes_on : goal.returns-clause-goes_on
returns-clause-goes_on g c =
    taken (AnswersRepaired (AnswersWatched g.A.Answerer.answers g.A.Answerer.gives_up) (GivesUpWatched g.A.Answerer.answers g.A.Answerer.gives_up)) (GivesUpRepaired (AnswersWatched g.A.Answerer.answers g.A.Answerer.gives_up) (GivesUpWatched g.A.Answerer.answers g.A.Answerer.gives_up)) (AnswersRepaired g.A.Answerer.answers g.A.Answerer.gives_up) (GivesUpRepaired g.A.Answerer.answers g.A.Answerer.gives_up)
    (λ s t item bytes h. h.0) (repaired_gives_up g.A.Answerer.answers g.A.Answerer.gives_up) c.push_repaired.result _ _ _ _ _ c.push_repaired.new.self c.answerer-1.given.0 (search rules) c.push_repaired.ensures.goes_on

pub returns-clause-ends : goal.returns-clause-ends
returns-clause-ends g c =
    faulted (AnswersRepaired (AnswersWatched g.A.Answerer.answers g.A.Answerer.gives_up) (GivesUpWatched g.A.Answerer.answers g.A.Answerer.gives_up)) (GivesUpRepaired (AnswersWatched g.A.Answerer.answers g.A.Answerer.gives_up) (GivesUpWatched g.A.Answerer.answers g.A.Answerer.gives_up)) (AnswersRepaired g.A.Answerer.answers g.A.Answerer.gives_up) (GivesUpRepaired g.A.Answerer.answers g.A.Answerer.gives_up)
    (λ s t item bytes h. h.0) (repaired_gives_up g.A.Answerer.answers g.A.Answerer.gives_up) c.push_repaired.result _ _ _ _ c.push_repaired.new.self c.answerer-1.given.0 (search rules) c.push_repaired.ensures.ends
