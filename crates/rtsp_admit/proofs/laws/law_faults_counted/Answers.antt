use Rattle.rtsp_admit.proofs.Counting.{admissions_count_faults}
use Rattle.rtsp_admit.proofs.laws.law_faults_counted.Goals as goal

pub returns : goal.returns
returns g c = admissions_count_faults g.B.Binder.calls c.args.ask.now
