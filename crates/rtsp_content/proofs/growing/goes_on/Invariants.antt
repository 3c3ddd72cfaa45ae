use Rattle.std.proofs.Common.{◌<◌, ℕ}
use Rattle.rtsp_content.specs.Growing.{GoesOnAt}
use Rattle.rtsp_content.proofs.growing.goes_on.Given as goal

abbrev pub invariant-loop-place : goal.invariant-loop-place
invariant-loop-place l = (place : ℕ) → place < l.place → GoesOnAt l.old l.newest l.all place
