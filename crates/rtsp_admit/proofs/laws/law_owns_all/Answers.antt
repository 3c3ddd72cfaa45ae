use Rattle.rtsp_admit.proofs.Alone.{owns_all_lasts}
use Rattle.rtsp_admit.proofs.laws.law_owns_all.Goals as goal

pub returns : goal.returns
returns c = owns_all_lasts
