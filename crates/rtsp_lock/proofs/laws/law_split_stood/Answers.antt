use Rattle.rtsp_lock.proofs.Handing.{split_stood}
use Rattle.rtsp_lock.proofs.laws.law_split_stood.Goals as goal

pub returns : goal.returns
returns c = split_stood
