use Rattle.std.proofs.Common.{◌<◌, ◌≤◌, ℕ, length}
use Rattle.rtsp_content.specs.Numbers.{number_at}
use Rattle.rtsp_content.proofs.growing.is_behind.Given as goal

abbrev pub invariant-loop-place : goal.invariant-loop-place
invariant-loop-place l = (place : ℕ) → length l.old.presentations ≤ place → place < l.place → l.newest ≤ number_at l.all.numbers place
