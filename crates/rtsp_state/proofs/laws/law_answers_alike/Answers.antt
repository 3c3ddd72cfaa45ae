use Rattle.rtsp_state.proofs.MeaningLemmas.{answers-alike}
use Rattle.rtsp_state.proofs.laws.law_answers_alike.Goals as goal

pub returns : goal.returns
returns c = answers-alike
