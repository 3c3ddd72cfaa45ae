use Rattle.rtsp_state.proofs.LawLemmas.{shows_allowed}
use Rattle.rtsp_state.proofs.laws.law_shows_allowed.Goals as goal

pub returns : goal.returns
returns c = shows_allowed
