use Rattle.std.proofs.Common.{◌≡◌, ◌*◌, ◌-◌}
use Rattle.rtsp_record.specs.Choices.{is_chan_free, least_of, least_chan}
use Rattle.rtsp_sessions.proofs.plain.rows.Rows.least_chan.Given as goal

abbrev pub invariant-loop-pair : goal.invariant-loop-pair
invariant-loop-pair l = least_of 2 (is_chan_free l.self l.conn) (2 * l.pair) (128 - l.pair) ≡ least_chan l.self l.conn
