use Rattle.std.proofs.Common.{◌≡◌, ℕ, ◌<◌, ◌≤◌, ◌+◌, ◌*◌}
use Rattle.rtsp_pools.specs.Bits.{bit_of}
use Rattle.rtsp_pools.proofs.words.lowest_number.Given as goal

abbrev pub invariant-loop-index : goal.invariant-loop-index
invariant-loop-index l = (l.low < 64) × (l.from ≤ l.index * 64 + l.low) × ((j : ℕ) → l.from ≤ j → j < l.index * 64 + l.low → bit_of l.words j ≡ 0)
