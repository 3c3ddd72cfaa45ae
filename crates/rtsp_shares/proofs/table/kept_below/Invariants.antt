use Rattle.std.proofs.Common.{◌≤◌, length}
use Rattle.rtsp_shares.specs.Keeping.{NoneKept}
use Rattle.rtsp_shares.proofs.table.kept_below.Given as goal

-- none of those from `at` on is kept
abbrev pub invariant-loop-at : goal.invariant-loop-at
invariant-loop-at l = (l.at ≤ length l.places) × (l.at ≤ l.below) × NoneKept l.whose l.at l.below l.places

abbrev pub decreases-loop-at : goal.decreases-loop-at
decreases-loop-at l = l.at
