use Rattle.rtsp_state.proofs.LawLemmas.{answers_refusal}
use Rattle.rtsp_state.proofs.laws.law_answers_refusal.Goals as goal

pub returns : goal.returns
returns c = answers_refusal
