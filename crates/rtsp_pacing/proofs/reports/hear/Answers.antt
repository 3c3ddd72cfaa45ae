use Rattle.std.proofs.Common.{refl}
use Rattle.rtsp_lock.proofs.Naming.{names_none}
use Rattle.rtsp_pacing.proofs.reports.hear.Goals as goal

pub act-requires-clause-names : goal.act-requires-clause-names
act-requires-clause-names g c = names_none g.N.Numbers.drawn _ _ refl
