use Rattle.std.proofs.Common.{◌≤◌, ◌+◌}
use Rattle.rtsp_pacing.specs.Wheel.{IsBareBefore}
use Rattle.rtsp_pacing.proofs.wheel.Wheel.next_full.Given as goal

abbrev pub invariant-loop-ahead : goal.invariant-loop-ahead
invariant-loop-ahead l = (1 ≤ l.ahead) × IsBareBefore l.self (l.self.done + l.ahead)
