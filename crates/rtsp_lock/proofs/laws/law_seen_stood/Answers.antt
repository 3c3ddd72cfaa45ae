use Rattle.rtsp_lock.proofs.Handing.{seen_stood}
use Rattle.rtsp_lock.proofs.laws.law_seen_stood.Goals as goal

pub returns : goal.returns
returns c = seen_stood
