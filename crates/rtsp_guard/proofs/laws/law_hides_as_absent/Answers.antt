use Rattle.rtsp_guard.proofs.Absent.{hides_as_absent}
use Rattle.rtsp_guard.proofs.laws.law_hides_as_absent.Goals as goal

pub returns : goal.returns
returns c = hides_as_absent
