use Rattle.std.proofs.Common.{◌≡◌, drop}
use Rattle.std.specs.FinMap.{entries}
use Rattle.rtsp_sessions.specs.Lookups.{with_startup_in}
use Rattle.rtsp_sessions.proofs.plain.rows.Rows.with_startup.Given as goal

abbrev pub invariant-loop-row : goal.invariant-loop-row
invariant-loop-row l = with_startup_in l.conn l.number (drop l.row-index l.row-items) ≡ with_startup_in l.conn l.number (entries l.self)
