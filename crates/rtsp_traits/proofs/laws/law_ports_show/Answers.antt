use Rattle.rtsp_traits.proofs.Showing.{ports_show}
use Rattle.rtsp_traits.proofs.laws.law_ports_show.Goals as goal

pub returns : goal.returns
returns c = ports_show
