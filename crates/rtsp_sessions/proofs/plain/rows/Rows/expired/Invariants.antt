use Rattle.std.proofs.Common.{◌≡◌, drop}
use Rattle.std.specs.FinMap.{entries}
use Rattle.rtsp_sessions.specs.Lookups.{expired_in}
use Rattle.rtsp_sessions.proofs.plain.rows.Rows.expired.Given as goal

abbrev pub invariant-loop-row : goal.invariant-loop-row
invariant-loop-row l = expired_in l.now (drop l.row-index l.row-items) ≡ expired_in l.now (entries l.self)
