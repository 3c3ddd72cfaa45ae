use Rattle.rtsp_admit.proofs.Drawing.{admissions_keep_drawn}
use Rattle.rtsp_admit.proofs.laws.law_admitted_keeps_drawn.Goals as goal

pub returns : goal.returns
returns g c = admissions_keep_drawn g.B.Binder.calls c.args.ask.now
