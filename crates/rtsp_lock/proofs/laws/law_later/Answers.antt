use Rattle.rtsp_lock.proofs.Runs.{later_comes}
use Rattle.rtsp_lock.proofs.laws.law_later.Goals as goal

pub returns : goal.returns
returns c = later_comes
