use Rattle.rtsp_lock.proofs.Handing.{first_stood}
use Rattle.rtsp_lock.proofs.laws.law_first_stood.Goals as goal

pub returns : goal.returns
returns c = first_stood
