use Rattle.std.proofs.Common.{◌≤◌}
use Rattle.rtsp_sockets.proofs.decisions.Decisions.latest.Given as goal

abbrev pub invariant-loop-since : goal.invariant-loop-since
invariant-loop-since l = l.latest ≤ l.now
