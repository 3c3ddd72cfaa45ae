use Rattle.std.proofs.Common.{◌≡◌, drop}
use Rattle.std.specs.FinMap.{entries}
use Rattle.rtsp_sessions.specs.Lookups.{first_from}
use Rattle.rtsp_sessions.proofs.plain.rows.Rows.first_from.Given as goal

abbrev pub invariant-loop-row : goal.invariant-loop-row
invariant-loop-row l = first_from l.from (drop l.row-index l.row-items) ≡ first_from l.from (entries l.self)
