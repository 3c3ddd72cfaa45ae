use Rattle.rtsp_admit.proofs.Unwinding.{leaves_nothing_drawn}
use Rattle.rtsp_admit.proofs.laws.law_refused_drawn.Goals as goal

pub returns : goal.returns
returns g c = leaves_nothing_drawn g.B.Binder.calls c.args.ask.now
