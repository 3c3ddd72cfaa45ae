use Rattle.std.proofs.Common.{arith}
use Rattle.rtsp_state.proofs.RoomLemmas.{reserved}
use Rattle.rtsp_state.proofs.step_plan.StepPlan.make_room.Goals as goal

pub returns-clause-ok : goal.returns-clause-ok
returns-clause-ok c = reserved _ _ _ _ (omega (arith, c.details_size.ensures, c.saturating_add.ensures)) c.reserve.ensures.top c.reserve.ensures.ok
