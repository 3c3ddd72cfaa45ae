use Rattle.rtsp_admit.proofs.Sharing.{history_used_alone}
use Rattle.rtsp_admit.proofs.laws.law_history_used_alone.Goals as goal

pub returns : goal.returns
returns c = history_used_alone
