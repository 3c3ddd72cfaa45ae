use Rattle.std.proofs.Common.{◌≡◌, max, drop}
use Rattle.rtsp_content.specs.StartsValue.{greatest_to}
use Rattle.rtsp_content.proofs.starts.greatest_to.Given as goal

-- the greatest so far and that of the rest are that of all
abbrev pub invariant-loop-start : goal.invariant-loop-start
invariant-loop-start l = max l.greatest (greatest_to (drop l.start-index l.starts) l.asked) ≡ greatest_to l.starts l.asked
