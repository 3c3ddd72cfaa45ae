use Rattle.rtsp_admit.proofs.Drawing.{draws_give_unused}
use Rattle.rtsp_admit.proofs.laws.law_drawn_is_unused.Goals as goal

pub returns : goal.returns
returns c = draws_give_unused
