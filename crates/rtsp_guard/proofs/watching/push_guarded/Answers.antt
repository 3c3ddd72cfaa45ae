use Rattle.std.proofs.Common.{refl, rules}
use Rattle.rtsp_guard.specs.Guarding.{keeps}
use Rattle.rtsp_guard.proofs.Behind.{taken_behind, faulted_behind, guarded_as}
use Rattle.rtsp_guard.proofs.watching.push_guarded.Goals as goal

pub returns-clause-goes_on : goal.returns-clause-goes_on
returns-clause-goes_on g c =
    taken_behind g.A.Answerer.answers g.A.Answerer.gives_up c.push-pushed.result _ _ _ _ _ c.push-pushed.new.self
    (keeps c.push-pushed.new.self.gate c.args.users.now c.answerer-1.given.0)
    (guarded_as g.A.Answerer.answers g.A.Answerer.gives_up c.push-pushed.new.self _ _ _ refl c.push-pushed.ensures.users (search rules))
    c.push-pushed.ensures.goes_on

pub returns-clause-ends : goal.returns-clause-ends
returns-clause-ends g c =
    faulted_behind g.A.Answerer.answers g.A.Answerer.gives_up c.push-pushed.result _ _ _ _ c.push-pushed.new.self
    (keeps c.push-pushed.new.self.gate c.args.users.now c.answerer-1.given.0)
    (guarded_as g.A.Answerer.answers g.A.Answerer.gives_up c.push-pushed.new.self _ _ _ refl c.push-pushed.ensures.users (search rules))
    c.push-pushed.ensures.ends
