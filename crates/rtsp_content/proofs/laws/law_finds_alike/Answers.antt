use Rattle.rtsp_content.proofs.GrowthLemmas.{finds-alike}
use Rattle.rtsp_content.proofs.laws.law_finds_alike.Goals as goal

pub returns : goal.returns
returns c = finds-alike
