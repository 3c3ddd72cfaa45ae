use Rattle.std.proofs.Common.{◌≡◌, drop}
use Rattle.rtsp_sessions.specs.Searches.{all_streaming}
use Rattle.rtsp_sessions.proofs.views.all_streaming.Given as goal

abbrev pub invariant-loop-row : goal.invariant-loop-row
invariant-loop-row l = all_streaming (drop l.row-index l.rows) ≡ all_streaming l.rows
