use Rattle.std.proofs.Common.{◌≡◌, ◌+◌, ◌*◌, ◌-◌}
use Rattle.rtsp_record.specs.Choices.{from_on, least_of}
use Rattle.rtsp_sessions.specs.Ports.{step_of, count_in, is_free_at, least_free}
use Rattle.rtsp_sessions.proofs.plain.rows.Rows.least_free.Given as goal

abbrev pub invariant-loop-place : goal.invariant-loop-place
invariant-loop-place l =
    least_of (step_of l.wanted) (from_on l.from (is_free_at l.wanted l.self)) (l.whole.first_port + step_of l.wanted * l.place) (count_in l.whole l.wanted - l.place)
    ≡ least_free l.wanted l.whole l.self l.from
