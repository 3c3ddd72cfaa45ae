use Rattle.rtsp_state.proofs.ShownLemmas.{shows_session}
use Rattle.rtsp_state.proofs.laws.law_shows_session.Goals as goal

pub returns : goal.returns
returns c = shows_session
