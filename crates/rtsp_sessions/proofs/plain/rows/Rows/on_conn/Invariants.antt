use Rattle.std.proofs.Common.{◌≡◌, drop}
use Rattle.std.specs.FinMap.{entries}
use Rattle.rtsp_sessions.specs.Lookups.{on_conn_in}
use Rattle.rtsp_sessions.proofs.plain.rows.Rows.on_conn.Given as goal

abbrev pub invariant-loop-row : goal.invariant-loop-row
invariant-loop-row l = on_conn_in l.conn (drop l.row-index l.row-items) ≡ on_conn_in l.conn (entries l.self)
