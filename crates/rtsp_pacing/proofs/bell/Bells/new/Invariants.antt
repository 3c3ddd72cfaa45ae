use Rattle.std.proofs.Common.{◌≡◌, vec_len}
use Rattle.rtsp_pacing.proofs.bell.Bells.new.Given as goal

abbrev pub invariant-loop-count : goal.invariant-loop-count
invariant-loop-count l = vec_len l.bells ≡ l._count
