use Rattle.rtsp_admit.proofs.Sharing.{drawn_used_alone}
use Rattle.rtsp_admit.proofs.laws.law_drawn_used_alone.Goals as goal

pub returns : goal.returns
returns c = drawn_used_alone
