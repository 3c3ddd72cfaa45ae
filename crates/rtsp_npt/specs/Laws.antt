-- What holds of printed times and ranges.
use Rattle.std.specs.Prelude.{◌≡◌, ℕ, ◌*◌, ◌^◌, ◌<◌, ◌≤◌, true, List, length, Some, None}
use Rattle.std.specs.Char.{is_ascii_graphic}
use Rattle.std.specs.List.{list_all}
use Rattle.rtsp_npt.specs.Times.{SpellsTime}
use Rattle.rtsp_npt.specs.Ranges.{SpellsRange}
use Rattle.rtsp_npt.specs.Units.{unit_nanos, TakesUnits}
use Rattle.rtsp_npt.specs.Printed.{time_text, range_text, stop_text}
use Rattle.rtsp_npt.specs.declared.range.Range.{Range}
use Rattle.rtsp_npt.specs.declared.time.Time.{Time}

-- where the media is shorter than 10 ^ 19 seconds, a unit's time is spelled as the nanoseconds before it
abbrev pub TimeReadsBack : Type 0
TimeReadsBack = (unit unit_ms : ℕ) → unit * unit_ms < 10 ^ 22 → SpellsTime (time_text unit unit_ms) (unit * unit_nanos unit_ms)

-- the time at which a unit begins
abbrev pub unit_time : ℕ → ℕ → Time
unit_time unit unit_ms = record { nanos = unit * unit_nanos unit_ms }

-- the range from the beginning of a unit to that of another
abbrev pub unit_range : ℕ → ℕ → ℕ → Range
unit_range from stop unit_ms = record { start = Some (unit_time from unit_ms); stop = Some (unit_time stop unit_ms) }

-- a written range is spelled with the times that its units have
abbrev pub RangeReadsBack : Type 0
RangeReadsBack = (from stop unit_ms : ℕ) → from * unit_ms < 10 ^ 22 → stop * unit_ms < 10 ^ 22
    → SpellsRange (range_text from stop unit_ms) (unit_range from stop unit_ms)

-- and a stop alone
abbrev pub StopReadsBack : Type 0
StopReadsBack = (stop unit_ms : ℕ) → stop * unit_ms < 10 ^ 22
    → SpellsRange (stop_text stop unit_ms) (record { start = None; stop = Some (unit_time stop unit_ms) })

-- these times are the same units again
abbrev pub UnitsStay : Type 0
UnitsStay = (resume from stop unit_ms units : ℕ) → 0 < unit_ms → from < stop → stop ≤ units
    → TakesUnits (unit_range from stop unit_ms) resume unit_ms units from stop

-- what a header's value may have between its spaces: visible ASCII
abbrev pub IsVisible : List ℕ → Type 0
IsVisible text = list_all is_ascii_graphic text ≡ true

-- at most so many bytes, and all of them visible
pub record FitsHeader (text : List ℕ) (most : ℕ) : Type 0 where
  pub few : length text ≤ most
  pub visible : IsVisible text

-- what is printed of numbers of 32 bits fits a header
abbrev pub TimeFits : Type 0
TimeFits = (unit unit_ms : ℕ) → unit < 2 ^ 32 → unit_ms < 2 ^ 32 → FitsHeader (time_text unit unit_ms) 21

-- so does a range
abbrev pub RangeFits : Type 0
RangeFits = (from stop unit_ms : ℕ) → from < 2 ^ 32 → stop < 2 ^ 32 → unit_ms < 2 ^ 32 → FitsHeader (range_text from stop unit_ms) 47

-- and a stop alone
abbrev pub StopFits : Type 0
StopFits = (stop unit_ms : ℕ) → stop < 2 ^ 32 → unit_ms < 2 ^ 32 → FitsHeader (stop_text stop unit_ms) 26
