use Rattle.rtsp_state.proofs.GrowthLemmas.{decides-by-place}
use Rattle.rtsp_state.proofs.laws.law_decides_by_place.Goals as goal

pub returns : goal.returns
returns c = decides-by-place
