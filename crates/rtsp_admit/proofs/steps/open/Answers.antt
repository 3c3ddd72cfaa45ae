use Rattle.std.proofs.Common.{refl}
use Rattle.rtsp_lock.proofs.Naming.{names_none}
use Rattle.rtsp_admit.proofs.steps.open.Goals as goal

pub act_into-requires-clause-names : goal.act_into-requires-clause-names
act_into-requires-clause-names g c = names_none g.N.Numbers.drawn _ _ refl
