use Rattle.std.proofs.Common.{List, ℕ, ◌++◌, subst}
use Rattle.std.specs.Prelude.{Err}
use Rattle.rtsp_engine.specs.Served.{FaultedAfter, at}
use Rattle.rtsp_engine.proofs.Going.{refused}
use Rattle.rtsp_engine.proofs.connection.Connection.push.Goals as goal

pub returns-in-Err-clause-ends : goal.returns-in-Err-clause-ends
returns-in-Err-clause-ends g c =
    let R = g.A.Answerer.answers in
    let L = g.A.Answerer.gives_up in
    let before = at c.args.room.now c.args.answerer.now in
    subst (λ (z : List ℕ). FaultedAfter R L (z ++ c.args.piece.now) c.in-Err.fault before before) c.self.view_is
    (refused R L c.self.inside.feed.fault c.self.inside.feed.unread c.args.piece.now (Err c.in-Err.fault) before c.law_stays.ensures c.self.invariant c.in-Err.ensures.kept c.in-Err.ensures.memory)
