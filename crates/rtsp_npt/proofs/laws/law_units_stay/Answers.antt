use Rattle.rtsp_npt.proofs.PrintLemmas.{units_back}
use Rattle.rtsp_npt.proofs.laws.law_units_stay.Goals as goal

pub returns : goal.returns
returns c = units_back
