-- Reading a Range header, as a function of its text.
use Rattle.std.specs.Prelude.{ℕ, ◌+◌, ◌-◌, ◌*◌, ◌^◌, Bool, ◌||◌, nat_eq, nat_le, List, [], ◌∷◌, map, length, codes, if◌then◌else◌, Option, Some, None, Result, Ok, Err}
use Rattle.std.specs.Option.{ok_or}
use Rattle.std.specs.Char.{to_ascii_lowercase}
use Rattle.std.specs.List.{starts_with, ends_with}
use Rattle.std.specs.Cmp.Lexicographic.{pointwise}
use Rattle.rtsp_text.specs.Bytes.{is_token}
use Rattle.rtsp_text.specs.Decimal.{digits_number, number_of}
use Rattle.rtsp_text.specs.Options.{◌>>=◌}
use Rattle.rtsp_text.specs.SplitOnce.{split_once}
use Rattle.rtsp_npt.specs.Bytes.{equals, dash, colon, point}
use Rattle.rtsp_npt.specs.declared.range.Range.{Range}
use Rattle.rtsp_npt.specs.declared.time.Time.{Time}
use Rattle.rtsp_npt.specs.declared.fault.RangeFault.{RangeFault}
use Rattle.rtsp_npt.specs.declared.fault.RangeFault.TheVariants as faults

-- minutes or seconds of a clock
unfoldable pub sixtieth_of : List ℕ → Option ℕ
sixtieth_of text = do
  n ← number_of 2 text
  if nat_le n 59 then Some n else None

-- hours, minutes and seconds, where a colon splits the text, and else seconds
abbrev pub clock_of : List ℕ → Option (List ℕ × List ℕ) → Option ℕ
clock_of text None = number_of 19 text
clock_of text (Some parts) = do
  sixtieths ← split_once colon parts.1
  hours ← number_of 19 parts.0
  minutes ← sixtieth_of sixtieths.0
  seconds ← sixtieth_of sixtieths.1
  Some (hours * 3600 + minutes * 60 + seconds)

-- seconds, in either form
unfoldable pub seconds_of : List ℕ → Option ℕ
seconds_of text = clock_of text (split_once colon text)

-- nanoseconds from the digits after the point
unfoldable pub fraction_of : List ℕ → Option ℕ
fraction_of text = if nat_le (length text) 9 then (do
  n ← digits_number text
  Some (n * 10 ^ (9 - length text))) else None

-- seconds with a fraction, where a point splits the text, and else without one
abbrev pub pointed_of : List ℕ → Option (List ℕ × List ℕ) → Option ℕ
pointed_of text None = do
  seconds ← seconds_of text
  Some (seconds * 10 ^ 9)
pointed_of text (Some parts) = do
  seconds ← seconds_of parts.0
  nanos ← fraction_of parts.1
  Some (seconds * 10 ^ 9 + nanos)

-- a time in nanoseconds
unfoldable pub time_of : List ℕ → Option ℕ
time_of text = pointed_of text (split_once point text)

-- the unit of normal play time, in any case
abbrev pub is_npt : List ℕ → Bool
is_npt unit = pointwise nat_eq (map to_ascii_lowercase unit) (codes "npt")

-- `now` at either side of a dash
abbrev pub has_now : List ℕ → Bool
has_now times = starts_with nat_eq times (codes "now-") || ends_with nat_eq times (codes "-now")

-- the time at a side of the dash; an empty side has none
abbrev pub side_of : List ℕ → Option (Option Time)
side_of [] = Some None
side_of (b ∷ text) = do
  nanos ← time_of (b ∷ text)
  Some (Some (record { nanos = nanos }))

-- either side may be missing, but not both
abbrev pub bounds_of : Option Time → Option Time → Option Range
bounds_of None None = None
bounds_of None (Some stop) = Some (record { start = None; stop = Some stop })
bounds_of (Some start) stop = Some (record { start = Some start; stop = stop })

-- the times at the sides of the dash
abbrev pub sides_of : List ℕ → List ℕ → Option Range
sides_of first last = do
  start ← side_of first
  stop ← side_of last
  bounds_of start stop

-- the times after `npt=`
unfoldable pub times_of : List ℕ → Result Range RangeFault
times_of times = if has_now times then Err faults.Now else ok_or (split_once dash times >>= λ parts. sides_of parts.0 parts.1) faults.BadNpt

-- a unit that isn't `npt`
abbrev pub fault_of : List ℕ → RangeFault
fault_of unit = if is_token unit then faults.NotNpt else faults.BadNpt

-- a unit alone, or with the times after it
abbrev pub spec_of : List ℕ → Option (List ℕ × List ℕ) → Result Range RangeFault
spec_of text None = if is_npt text then Ok (record { start = None; stop = None }) else Err (fault_of text)
spec_of text (Some parts) = if is_npt parts.0 then times_of parts.1 else Err (fault_of parts.0)

-- a Range header
unfoldable pub range_of : List ℕ → Result Range RangeFault
range_of text = spec_of text (split_once equals text)
