use Rattle.rtsp_proxy.proofs.Written.{line-is-read}
use Rattle.rtsp_proxy.proofs.laws.law_line_is_read.Goals as goal

pub returns : goal.returns
returns c = line-is-read
