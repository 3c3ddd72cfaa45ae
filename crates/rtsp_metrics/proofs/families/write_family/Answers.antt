use Rattle.rtsp_metrics.proofs.Appended.{appended}
use Rattle.rtsp_metrics.proofs.families.write_family.Goals as goal

pub returns : goal.returns
returns c = appended _ _ _ _ _ _ c.in_ok-write_head.ensures c.write_samples.ensures
