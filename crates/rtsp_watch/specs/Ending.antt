-- Which session a step has ended.
use Rattle.std.specs.Prelude.{ℕ, ◌-◌, List, length, Option, Some, None, slice_get, option_and_then}
use Rattle.rtsp_record.specs.declared.changes.Record.{Record}
use Rattle.rtsp_record.specs.declared.payloads.Life.{Life}
use Rattle.rtsp_record.specs.declared.changes.Record.TheVariants.{Close}

-- the session that a record closes
abbrev pub closed_as : Record → Option Life
closed_as (Close life) = Some life
closed_as other = None

-- that which the last of some records closes
abbrev pub closed_by : List Record → Option Life
closed_by made = option_and_then closed_as (slice_get made (length made - 1))
