use Rattle.rtsp_state.proofs.GrowthLemmas.{plays-on}
use Rattle.rtsp_state.proofs.laws.law_plays_on.Goals as goal

pub returns : goal.returns
returns c = plays-on
