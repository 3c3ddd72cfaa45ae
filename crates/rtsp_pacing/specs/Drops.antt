-- Frames that were dropped.
use Rattle.std.specs.Prelude.{◌+◌, ◌-◌, ◌^◌, min, Option, Some, None}
use Rattle.rtsp_pacing.specs.declared.dropped.Dropped.{Dropped}

-- those that were dropped before and later: all are counted, up to 2^64 - 1, and the first tell why and since when
abbrev pub counted : Option Dropped → Option Dropped → Option Dropped
counted None more = more
counted (Some before) None = Some before
counted (Some before) (Some more) = Some (record before { frames = min (before.frames + more.frames) (2 ^ 64 - 1) })
