use Rattle.std.proofs.Common.{◌≡◌, take}
use Rattle.rtsp_content.proofs.standing.copies.Given as goal

abbrev pub invariant-loop-place : goal.invariant-loop-place
invariant-loop-place l = l.copies.items ≡ take l.place l.presentations.items
