use Rattle.rtsp_lock.proofs.Handing.{hand_outs_are_calls}
use Rattle.rtsp_lock.proofs.laws.law_handed_out.Goals as goal

pub returns : goal.returns
returns c = hand_outs_are_calls
