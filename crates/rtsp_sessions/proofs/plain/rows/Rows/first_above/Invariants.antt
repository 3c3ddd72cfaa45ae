use Rattle.std.proofs.Common.{◌≡◌, ◌≤◌, take, drop, length}
use Rattle.rtsp_sessions.specs.Lookups.{numbers_above}
use Rattle.rtsp_sessions.proofs.plain.rows.Rows.first_above.Given as goal

abbrev pub invariant-loop-left : goal.invariant-loop-left
invariant-loop-left l = record { within : l.left ≤ length l.rows; found : l.found ≡ take 256 (numbers_above l.above (drop l.left l.rows)) }

abbrev pub decreases-loop-left : goal.decreases-loop-left
decreases-loop-left l = l.left
