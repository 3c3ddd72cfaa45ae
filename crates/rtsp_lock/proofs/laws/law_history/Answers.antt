use Rattle.rtsp_lock.proofs.Runs.{continues}
use Rattle.rtsp_lock.proofs.laws.law_history.Goals as goal

pub returns : goal.returns
returns c = continues
