use Rattle.std.proofs.Common.{◌≡◌, replicate}
use Rattle.std.specs.VecDeque.{deque_len, deque_capacity}
use Rattle.rtsp_shares.proofs.watermark.Watermark.new.Given as goal

abbrev pub invariant-loop-count : goal.invariant-loop-count
invariant-loop-count l = (l.sweeps.items ≡ replicate l._count 0) × (deque_len l.sweeps ≡ l._count) × (deque_capacity l.sweeps ≡ 10)
