use Rattle.rtsp_lock.proofs.Runs.{reliefs_are_calls}
use Rattle.rtsp_lock.proofs.laws.law_relieved.Goals as goal

pub returns : goal.returns
returns c = reliefs_are_calls
