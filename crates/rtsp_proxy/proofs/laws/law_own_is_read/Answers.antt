use Rattle.rtsp_proxy.proofs.Staying.{own-read}
use Rattle.rtsp_proxy.proofs.laws.law_own_is_read.Goals as goal

pub returns : goal.returns
returns c = own-read
