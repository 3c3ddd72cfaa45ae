use Rattle.rtsp_pacing.proofs.Turning.{bare_new}
use Rattle.rtsp_pacing.proofs.wheel.Wheel.new.Goals as goal

pub returns-clause-bare : goal.returns-clause-bare
returns-clause-bare c = bare_new (record { heads = c.no_heads.result; done = c.min.result }) c.no_heads.ensures
