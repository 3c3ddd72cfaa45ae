use Rattle.rtsp_admit.proofs.Adding.{admissions_grow}
use Rattle.rtsp_admit.proofs.laws.law_admitted_grows.Goals as goal

pub returns : goal.returns
returns g c = admissions_grow g.B.Binder.calls c.args.ask.now
