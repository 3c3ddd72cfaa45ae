use Rattle.rtsp_state.proofs.RenewalLemmas.{renews_in_steps}
use Rattle.rtsp_state.proofs.laws.law_renews_in_steps.Goals as goal

pub returns : goal.returns
returns c = renews_in_steps
