use Rattle.rtsp_traits.specs.Devices.{devices}
use Rattle.rtsp_engine.proofs.Parts.{ended_same}
use Rattle.rtsp_engine.proofs.desk.Desk.serve.Goals as goal

pub returns-clause-same : goal.returns-clause-same
returns-clause-same g c = ended_same (devices g.B.Binder.calls g.W.Words.calls g.C.Clock.tells g.P.Plays.calls g.S.Shares.calls) c.serve_turns.result _ _ _ c.serve_turns.ensures.served

pub returns-clause-seat : goal.returns-clause-seat
returns-clause-seat g c = (ended_same (devices g.B.Binder.calls g.W.Words.calls g.C.Clock.tells g.P.Plays.calls g.S.Shares.calls) c.serve_turns.result _ _ _ c.serve_turns.ensures.served).seat

pub returns-clause-grows : goal.returns-clause-grows
returns-clause-grows g c = (_, c.law_served_grows.ensures.ended _ c.serve_turns.result _ _ c.serve_turns.ensures.served)

pub returns-clause-numbers : goal.returns-clause-numbers
returns-clause-numbers g c = c.law_served_keeps_numbers.ensures.ended _ c.serve_turns.result _ _ c.serve_turns.ensures.served

pub returns-clause-owns : goal.returns-clause-owns
returns-clause-owns g c own = (c.law_served_cleanly.ensures.ended _ c.serve_turns.result _ _ own c.serve_turns.ensures.served).1

pub returns-clause-cleanly : goal.returns-clause-cleanly
returns-clause-cleanly g c own = (c.law_served_cleanly.ensures.ended _ c.serve_turns.result _ _ own c.serve_turns.ensures.served).0

pub returns-clause-alone : goal.returns-clause-alone
returns-clause-alone g c is = (c.law_served_drawn.ensures.ended _ c.serve_turns.result _ _ is c.serve_turns.ensures.served).1

pub returns-clause-drawn : goal.returns-clause-drawn
returns-clause-drawn g c is = (c.law_served_drawn.ensures.ended _ c.serve_turns.result _ _ is c.serve_turns.ensures.served).0
