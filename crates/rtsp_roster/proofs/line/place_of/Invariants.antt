use Rattle.std.proofs.Common.{◌≡◌, ◌≤◌, take, length}
use Rattle.rtsp_roster.specs.Lines.{times}
use Rattle.rtsp_roster.proofs.line.place_of.Given as goal

abbrev pub invariant-loop-at : goal.invariant-loop-at
invariant-loop-at l = (times l.key (take l.at l.keys.items) ≡ 0) × (l.at ≤ length l.keys.items)
