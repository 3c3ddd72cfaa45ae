use Rattle.rtsp_lock.proofs.Handing.{stood_lasts}
use Rattle.rtsp_lock.proofs.laws.law_stood_lasts.Goals as goal

pub returns : goal.returns
returns c = stood_lasts
