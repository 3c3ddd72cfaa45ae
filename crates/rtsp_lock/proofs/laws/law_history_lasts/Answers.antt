use Rattle.rtsp_lock.proofs.Runs.{histories_last}
use Rattle.rtsp_lock.proofs.laws.law_history_lasts.Goals as goal

pub returns : goal.returns
returns c = histories_last
