use Rattle.std.proofs.Common.{ap}
use Rattle.rtsp_lock.specs.Calls.{seat_view}
use Rattle.rtsp_lock.specs.Numbers.{admission_of}
use Rattle.rtsp_lock.proofs.Naming.{names_used}
use Rattle.rtsp_admit.proofs.steps.hold_channels.Goals as goal

pub act_into-requires-clause-names : goal.act_into-requires-clause-names
act_into-requires-clause-names g c =
    names_used g.N.Numbers.drawn (seat_view c.args.seat.now) c.chan_step.result c.args.ask.now.admission (ap admission_of c.chan_step.ensures) c.requires.number
