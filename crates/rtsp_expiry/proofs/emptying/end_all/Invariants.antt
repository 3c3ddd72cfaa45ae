use Rattle.rtsp_expiry.specs.Emptying.{EndsAll}
use Rattle.rtsp_expiry.proofs.emptying.end_all.Given as goal

abbrev pub invariant-loop : goal.invariant-loop
invariant-loop g l = EndsAll l.fn.actor l.fn.kept l.kept
