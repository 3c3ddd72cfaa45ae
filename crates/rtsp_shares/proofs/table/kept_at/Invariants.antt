use Rattle.std.proofs.Common.{◌≡◌, ◌≤◌, ℕ, Some, length, slice_get}
use Rattle.rtsp_shares.specs.Keeping.{kept}
use Rattle.rtsp_shares.proofs.table.kept_at.Given as goal

abbrev pub invariant-loop-at : goal.invariant-loop-at
invariant-loop-at l = (l.at ≤ length l.places) × ((k address : ℕ) → l.at ≤ k → slice_get l.places k ≡ Some (kept address l.number) → ⊥)

abbrev pub decreases-loop-at : goal.decreases-loop-at
decreases-loop-at l = l.at
