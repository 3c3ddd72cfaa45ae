use Rattle.rtsp_state.proofs.GrowthLemmas.{renews-alike}
use Rattle.rtsp_state.proofs.laws.law_renews_alike.Goals as goal

pub returns : goal.returns
returns c = renews-alike
