use Rattle.std.proofs.Common.{◌≡◌, max, drop}
use Rattle.rtsp_content.specs.StartsValue.{gap_from}
use Rattle.rtsp_content.proofs.starts.gap_in.Given as goal

-- the longest so far and that of the rest are that of all
abbrev pub invariant-loop-start : goal.invariant-loop-start
invariant-loop-start l = max l.longest (gap_from l.before (drop l.start-index l.starts) l.units) ≡ gap_from 0 l.starts l.units
