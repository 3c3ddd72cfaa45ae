use Rattle.std.proofs.Common.{◌≡◌, vec_len}
use Rattle.rtsp_pacing.proofs.noted.NotedPlays.hand_over.Given as goal

abbrev pub decreases-loop-begun : goal.decreases-loop-begun
decreases-loop-begun g l = vec_len l.self.begun

abbrev pub invariant-loop-begun : goal.invariant-loop-begun
invariant-loop-begun g l = l.self.noted ≡ l.fn.self.noted
