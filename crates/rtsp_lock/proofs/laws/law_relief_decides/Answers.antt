use Rattle.rtsp_lock.proofs.Runs.{reliefs_decide}
use Rattle.rtsp_lock.proofs.laws.law_relief_decides.Goals as goal

pub returns : goal.returns
returns c = reliefs_decide
