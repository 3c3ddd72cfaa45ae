use Rattle.rtsp_admit.proofs.Having.{admissions_gain_address}
use Rattle.rtsp_admit.proofs.laws.law_admitted_address.Goals as goal

pub returns : goal.returns
returns g c = admissions_gain_address g.B.Binder.calls c.args.ask.now
