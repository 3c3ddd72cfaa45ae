use Rattle.rtsp_admit.proofs.Alone.{leaves_nothing_alone}
use Rattle.rtsp_admit.proofs.laws.law_refused_alone.Goals as goal

pub returns : goal.returns
returns g c = leaves_nothing_alone g.B.Binder.calls c.args.ask.now
