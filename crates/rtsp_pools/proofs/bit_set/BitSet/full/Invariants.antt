use Rattle.std.proofs.Common.{◌≡◌, ℕ, ◌<◌, ◌≤◌, true, false}
use Rattle.rtsp_pools.specs.Bits.{has}
use Rattle.rtsp_pools.proofs.bit_set.BitSet.full.Given as goal

abbrev pub invariant-loop-number : goal.invariant-loop-number
invariant-loop-number l = (l.all.limit ≡ l.limit) × ((k : ℕ) → k < l.number → has l.all.words.items k ≡ true) × ((k : ℕ) → l.number ≤ k → has l.all.words.items k ≡ false)
