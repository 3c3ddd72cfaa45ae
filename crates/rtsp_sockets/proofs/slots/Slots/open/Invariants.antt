use Rattle.std.proofs.Common.{◌≡◌, None, replicate}
use Rattle.rtsp_sockets.proofs.slots.Slots.open.Given as goal

abbrev pub invariant-loop-count : goal.invariant-loop-count
invariant-loop-count g l = l.slots.items ≡ replicate l._count None
