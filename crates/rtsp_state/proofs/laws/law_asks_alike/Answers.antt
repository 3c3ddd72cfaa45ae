use Rattle.rtsp_state.proofs.AlikeLemmas.{asks-alike}
use Rattle.rtsp_state.proofs.laws.law_asks_alike.Goals as goal

pub returns : goal.returns
returns c = asks-alike
