use Rattle.std.proofs.Common.{◌≡◌, drop}
use Rattle.rtsp_sessions.specs.Searches.{is_of_track, first_with}
use Rattle.rtsp_sessions.proofs.views.first_of_track.Given as goal

abbrev pub invariant-loop-row : goal.invariant-loop-row
invariant-loop-row l = first_with (is_of_track l.track) (drop l.row-index l.rows) ≡ first_with (is_of_track l.track) l.rows
