use Rattle.rtsp_state.proofs.ValidLemmas.{allowed_is_valid}
use Rattle.rtsp_state.proofs.laws.law_allowed_is_valid.Goals as goal

pub returns : goal.returns
returns c = allowed_is_valid
