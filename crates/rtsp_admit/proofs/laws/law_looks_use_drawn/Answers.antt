use Rattle.rtsp_admit.proofs.Drawing.{looks_use_drawn}
use Rattle.rtsp_admit.proofs.laws.law_looks_use_drawn.Goals as goal

pub returns : goal.returns
returns c = looks_use_drawn
