use Rattle.std.proofs.Common.{ap}
use Rattle.rtsp_lock.specs.Numbers.{admission_of}
use Rattle.rtsp_lock.proofs.Naming.{names_none}
use Rattle.rtsp_admit.proofs.ports.try_ports.Goals as goal

pub act_into-requires-clause-names : goal.act_into-requires-clause-names
act_into-requires-clause-names g c = names_none g.N.Numbers.drawn _ c.return_step.result (ap admission_of c.return_step.ensures)
