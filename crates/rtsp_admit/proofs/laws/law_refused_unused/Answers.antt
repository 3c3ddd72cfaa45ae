use Rattle.rtsp_admit.proofs.Unwinding.{leaves_nothing_unused}
use Rattle.rtsp_admit.proofs.laws.law_refused_unused.Goals as goal

pub returns : goal.returns
returns g c = leaves_nothing_unused g.B.Binder.calls c.args.ask.now
