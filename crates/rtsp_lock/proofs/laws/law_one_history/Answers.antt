use Rattle.rtsp_lock.proofs.Differing.{one_history}
use Rattle.rtsp_lock.proofs.laws.law_one_history.Goals as goal

pub returns : goal.returns
returns c = one_history
