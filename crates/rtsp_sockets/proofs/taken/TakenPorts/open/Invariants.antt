use Rattle.std.proofs.Common.{◌≡◌, None, replicate}
use Rattle.rtsp_sockets.proofs.taken.TakenPorts.open.Given as goal

abbrev pub invariant-loop-count : goal.invariant-loop-count
invariant-loop-count l = l.hosts.items ≡ replicate l._count None
