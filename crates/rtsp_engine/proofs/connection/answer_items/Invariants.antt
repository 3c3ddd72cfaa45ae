use Rattle.std.proofs.Common.{◌≡◌, None, length}
use Rattle.rtsp_engine.specs.Served.{Answered, at}
use Rattle.rtsp_engine.proofs.connection.answer_items.Given as goal

abbrev pub invariant-loop-item : goal.invariant-loop-item
invariant-loop-item g l = record {
  waits : l.feed.fault ≡ None;
  done : Answered (g.A.Answerer.answers) (g.A.Answerer.gives_up) l.fn.feed.unread l.feed.unread (at l.fn.room l.fn.answerer) (at l.room l.answerer);
}

abbrev pub decreases-loop-item : goal.decreases-loop-item
decreases-loop-item g l = length l.feed.unread
