use Rattle.rtsp_content.proofs.GrowthLemmas.{keeps-places}
use Rattle.rtsp_content.proofs.laws.law_keeps_places.Goals as goal

pub returns : goal.returns
returns c = keeps-places
