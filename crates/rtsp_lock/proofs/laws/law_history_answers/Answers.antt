use Rattle.rtsp_lock.proofs.Histories.{history_answers}
use Rattle.rtsp_lock.proofs.laws.law_history_answers.Goals as goal

pub returns : goal.returns
returns c = history_answers
