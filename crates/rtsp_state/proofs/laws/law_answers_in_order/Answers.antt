use Rattle.rtsp_state.proofs.OrderLemmas.{answers_in_order}
use Rattle.rtsp_state.proofs.laws.law_answers_in_order.Goals as goal

pub returns : goal.returns
returns c = answers_in_order
