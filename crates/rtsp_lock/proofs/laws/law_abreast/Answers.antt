use Rattle.rtsp_lock.proofs.Handing.{runs_abreast}
use Rattle.rtsp_lock.proofs.laws.law_abreast.Goals as goal

pub returns : goal.returns
returns c = runs_abreast
