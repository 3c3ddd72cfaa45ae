use Rattle.std.proofs.Common.{◌≡◌, drop}
use Rattle.std.specs.FinMap.{entries}
use Rattle.rtsp_sessions.specs.Lookups.{unsettled_in}
use Rattle.rtsp_sessions.proofs.plain.rows.Rows.unsettled.Given as goal

abbrev pub invariant-loop-row : goal.invariant-loop-row
invariant-loop-row l = unsettled_in (drop l.row-index l.row-items) ≡ unsettled_in (entries l.self)
