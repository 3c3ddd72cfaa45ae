use Rattle.rtsp_state.proofs.GrowthLemmas.{is-gone}
use Rattle.rtsp_state.proofs.laws.law_is_gone.Goals as goal

pub returns : goal.returns
returns c = is-gone
