use Rattle.std.proofs.Common.{◌≡◌, drop}
use Rattle.std.specs.FinMap.{entries}
use Rattle.rtsp_sessions.specs.Lookups.{with_id_in}
use Rattle.rtsp_sessions.proofs.plain.rows.Rows.with_id.Given as goal

abbrev pub invariant-loop-row : goal.invariant-loop-row
invariant-loop-row l = with_id_in l.id (drop l.row-index l.row-items) ≡ with_id_in l.id (entries l.self)
