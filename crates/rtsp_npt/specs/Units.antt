-- Which units of the media a range takes.
use Rattle.std.specs.Prelude.{◌≡◌, ℕ, ◌+◌, ◌*◌, ◌/◌, ◌<◌, ◌≤◌, ◌⊎◌, Bool, false, ◌||◌, nat_le, min, Option, Some, None, Result, Ok, Err, if◌then◌else◌}
use Rattle.std.specs.Int.{div_ceil}
use Rattle.rtsp_npt.specs.declared.range.Range.{Range}
use Rattle.rtsp_npt.specs.declared.time.Time.{Time}
use Rattle.rtsp_npt.specs.declared.units.Span.{Span}
use Rattle.rtsp_npt.specs.declared.fault.OutOfMedia.{OutOfMedia}

-- the length of a unit in nanoseconds
abbrev pub unit_nanos : ℕ → ℕ
unit_nanos unit_ms = unit_ms * 1000000

-- unit n, counted from 0, holds the time: it has begun by then, and hasn't ended
pub record HoldsTime (unit_ms time n : ℕ) : Type 0 where
  pub begun : n * unit_nanos unit_ms ≤ time
  pub not_ended : time < (n + 1) * unit_nanos unit_ms

-- so many units from the beginning reach the time, and no fewer do
pub record ReachTime (unit_ms time n : ℕ) : Type 0 where
  pub reached : time ≤ n * unit_nanos unit_ms
  pub least : (m : ℕ) → time ≤ m * unit_nanos unit_ms → n ≤ m

-- the unit at which a range starts: that of the written start, or the resume point
abbrev pub StartsAt : Option Time → ℕ → ℕ → ℕ → Type 0
StartsAt None resume unit_ms n = n ≡ resume
StartsAt (Some start) resume unit_ms n = HoldsTime unit_ms start.nanos n

-- the unit before which it stops: that of the written stop, at most the end of the media, or the end
abbrev pub StopsAt : Option Time → ℕ → ℕ → ℕ → Type 0
StopsAt None unit_ms units n = n ≡ units
StopsAt (Some stop) unit_ms units n = (m : ℕ) × ReachTime unit_ms stop.nanos m × (n ≡ min m units)

-- a written stop isn't above the written start, or without one above the resume point
abbrev pub IsBackwards : Option Time → Option Time → ℕ → ℕ → ℕ → Type 0
IsBackwards start None resume unit_ms units = ⊥
IsBackwards None (Some stop) resume unit_ms units = (n : ℕ) × StopsAt (Some stop) unit_ms units n × (n ≤ resume)
IsBackwards (Some start) (Some stop) resume unit_ms units = stop.nanos ≤ start.nanos

-- the range starts at the end of the media or later
abbrev pub StartsBehind : Range → ℕ → ℕ → ℕ → Type 0
StartsBehind range resume unit_ms units = (n : ℕ) × StartsAt range.start resume unit_ms n × (units ≤ n)

-- the range is outside the media
abbrev pub IsOutOfMedia : Range → ℕ → ℕ → ℕ → Type 0
IsOutOfMedia range resume unit_ms units = StartsBehind range resume unit_ms units ⊎ IsBackwards range.start range.stop resume unit_ms units

-- the range takes the units from `from` on and before `stop`
pub record TakesUnits (range : Range) (resume unit_ms units from stop : ℕ) : Type 0 where
  pub starts : StartsAt range.start resume unit_ms from
  pub stops : StopsAt range.stop unit_ms units stop
  pub inside : ¬ IsOutOfMedia range resume unit_ms units

-- The same as functions.

-- the unit at which a range starts
abbrev pub start_unit : Option Time → ℕ → ℕ → ℕ
start_unit None resume unit_ms = resume
start_unit (Some start) resume unit_ms = start.nanos / unit_nanos unit_ms

-- the unit before which it stops
abbrev pub stop_unit : Option Time → ℕ → ℕ → ℕ
stop_unit None unit_ms units = units
stop_unit (Some stop) unit_ms units = min (div_ceil stop.nanos (unit_nanos unit_ms)) units

-- whether a written stop is no later than the start, where the range stops before the unit `end`
abbrev pub is_backwards : Option Time → Option Time → ℕ → ℕ → Bool
is_backwards start None resume end = false
is_backwards None (Some stop) resume end = nat_le end resume
is_backwards (Some start) (Some stop) resume end = nat_le stop.nanos start.nanos

-- the units of a range
unfoldable pub units_of : Range → ℕ → ℕ → ℕ → Result Span OutOfMedia
units_of range resume unit_ms units =
    let from = start_unit range.start resume unit_ms in
    let stop = stop_unit range.stop unit_ms units in
    if nat_le units from || is_backwards range.start range.stop resume stop then Err (record {})
    else Ok (record { from = from; stop = stop })
