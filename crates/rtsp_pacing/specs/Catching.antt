-- How a play that is behind catches up.
use Rattle.std.specs.Prelude.{◌≡◌, ◌≤◌, ◌+◌, ◌*◌, ℕ, max}
use Rattle.rtsp_record.specs.declared.phases.Phase.{Phase}
use Rattle.rtsp_record.specs.Moments.{due}
use Rattle.rtsp_rtp.specs.Pacing.{begun_at}

-- the time of media that may be sent at once when so much time has passed: twice that time, and two units in any case
abbrev pub most_at_once : ℕ → ℕ → ℕ
most_at_once unit_ms passed = max (2 * passed) (2 * unit_ms)

-- of the units of any play from the one on that is due at `first`, no more than that are due at a moment
abbrev pub IsMeasured : ℕ → ℕ → ℕ → ℕ → Type 0
IsMeasured unit_ms first passed moment = (phase : Phase) → (unit : ℕ) → first ≡ begun_at phase + unit * unit_ms → due phase unit_ms moment * unit_ms ≤ unit * unit_ms + most_at_once unit_ms passed
