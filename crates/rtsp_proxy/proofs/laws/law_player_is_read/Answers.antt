use Rattle.rtsp_proxy.proofs.Staying.{binary-read}
use Rattle.rtsp_proxy.proofs.laws.law_player_is_read.Goals as goal

pub returns : goal.returns
returns c = binary-read
