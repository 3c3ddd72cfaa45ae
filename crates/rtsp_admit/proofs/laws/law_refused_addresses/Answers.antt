use Rattle.rtsp_admit.proofs.Having.{refusals_keep_addresses}
use Rattle.rtsp_admit.proofs.laws.law_refused_addresses.Goals as goal

pub returns : goal.returns
returns g c = refusals_keep_addresses g.B.Binder.calls c.args.ask.now
