use Rattle.std.proofs.Common.{◌<◌, ◌≤◌, ℕ}
use Rattle.rtsp_content.specs.Numbers.{number_at}
use Rattle.rtsp_content.proofs.numbers.newest.Given as goal

abbrev pub invariant-loop-place : goal.invariant-loop-place
invariant-loop-place l = (place : ℕ) → place < l.place → number_at l.numbers place ≤ l.newest
