use Rattle.rtsp_admit.proofs.Unwinding.{leaves_nothing}
use Rattle.rtsp_admit.proofs.laws.law_refused.Goals as goal

pub returns : goal.returns
returns g c = leaves_nothing g.B.Binder.calls c.args.ask.now
