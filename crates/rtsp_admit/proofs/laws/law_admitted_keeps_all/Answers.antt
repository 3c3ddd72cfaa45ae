use Rattle.rtsp_admit.proofs.Alone.{admissions_keep_all}
use Rattle.rtsp_admit.proofs.laws.law_admitted_keeps_all.Goals as goal

pub returns : goal.returns
returns g c = admissions_keep_all g.B.Binder.calls c.args.ask.now
