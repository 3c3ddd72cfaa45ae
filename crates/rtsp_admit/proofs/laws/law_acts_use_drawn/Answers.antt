use Rattle.rtsp_admit.proofs.Drawing.{acts_use_drawn}
use Rattle.rtsp_admit.proofs.laws.law_acts_use_drawn.Goals as goal

pub returns : goal.returns
returns c = acts_use_drawn
