use Rattle.std.proofs.Common.{◌≡◌, ◌≤◌, ℕ, Some, length, slice_get}
use Rattle.rtsp_shares.specs.Places.{held}
use Rattle.rtsp_shares.proofs.table.held_at.Given as goal

abbrev pub invariant-loop-at : goal.invariant-loop-at
invariant-loop-at l = (l.at ≤ length l.places) × ((k : ℕ) → l.at ≤ k → slice_get l.places k ≡ Some (held l.address) → ⊥)

abbrev pub decreases-loop-at : goal.decreases-loop-at
decreases-loop-at l = l.at
