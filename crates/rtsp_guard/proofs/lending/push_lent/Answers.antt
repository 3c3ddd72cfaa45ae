use Rattle.std.proofs.Common.{rules}
use Rattle.rtsp_traits.specs.Devices.{devices}
use Rattle.rtsp_guard.proofs.Drawn.{takes_cleanly, faults_cleanly}
use Rattle.rtsp_guard.proofs.Lent.{returned_takes, returned_faults}
use Rattle.rtsp_guard.proofs.lending.push_lent.Goals as goal

pub returns-clause-goes_on : goal.returns-clause-goes_on
returns-clause-goes_on g c =
    returned_takes (devices g.B.Binder.calls g.W.Words.calls g.C.Clock.tells g.P.Plays.calls g.S.Shares.calls) c.push_understood.result _ _ _ _ _ _ _ _ c.push_understood.new.desk c.seat-1.given.0 (search rules)
    c.push_understood.ensures.same c.push_understood.ensures.goes_on

pub returns-clause-ends : goal.returns-clause-ends
returns-clause-ends g c =
    returned_faults (devices g.B.Binder.calls g.W.Words.calls g.C.Clock.tells g.P.Plays.calls g.S.Shares.calls) c.push_understood.result _ _ _ _ _ _ _ c.push_understood.new.desk c.seat-1.given.0 (search rules)
    c.push_understood.ensures.same c.push_understood.ensures.ends

pub returns-clause-clean : goal.returns-clause-clean
returns-clause-clean g c =
    let d = devices g.B.Binder.calls g.W.Words.calls g.C.Clock.tells g.P.Plays.calls g.S.Shares.calls in
    takes_cleanly d c.push_understood.result _ _ _ _
    (returned_takes d c.push_understood.result _ _ _ _ _ _ _ _ c.push_understood.new.desk c.seat-1.given.0 (search rules) c.push_understood.ensures.same c.push_understood.ensures.goes_on)

pub returns-clause-clean_end : goal.returns-clause-clean_end
returns-clause-clean_end g c =
    let d = devices g.B.Binder.calls g.W.Words.calls g.C.Clock.tells g.P.Plays.calls g.S.Shares.calls in
    faults_cleanly d c.push_understood.result _ _ _
    (returned_faults d c.push_understood.result _ _ _ _ _ _ _ c.push_understood.new.desk c.seat-1.given.0 (search rules) c.push_understood.ensures.same c.push_understood.ensures.ends)
