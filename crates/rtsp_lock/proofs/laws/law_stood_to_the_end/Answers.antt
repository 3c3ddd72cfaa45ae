use Rattle.rtsp_lock.proofs.Handing.{stood_to_the_end}
use Rattle.rtsp_lock.proofs.laws.law_stood_to_the_end.Goals as goal

pub returns : goal.returns
returns c = stood_to_the_end
