-- What a table of a configuration says of where a play may begin.
use Rattle.std.specs.Prelude.{ℕ, ◌+◌, ◌-◌, List, [], length, codes, slice_get, Option, Some, None, Ok}
use Rattle.toml.specs.Data.{Data, Members, get_member}
use Rattle.rtsp_content.specs.declared.limits.TheConstants.{MAX_STARTS}
use Rattle.rtsp_content.specs.Fault.{Read}
use Rattle.rtsp_text.specs.Results.{◌>>=◌}
use Rattle.rtsp_content.specs.Keys.{as_number, list_in}
use Rattle.rtsp_content.specs.Tables.{each_from}

-- the first is 0, and the others are above the one before, and units of the media
abbrev pub start_above : ℕ → Option ℕ → Data → Read ℕ
start_above units None d = as_number 0 0 d
start_above units (Some last) d = as_number (last + 1) (units - 1) d

abbrev pub start_behind : ℕ → List ℕ → Data → Read ℕ
start_behind units before d = start_above units (slice_get before (length before - 1)) d

-- each unit where nothing is said
abbrev pub starts_in : ℕ → Option Data → Read (Option (List ℕ))
starts_in units None = Ok None
starts_in units (Some d) = do
  items ← list_in MAX_STARTS (Some d)
  starts ← each_from (start_behind units) [] items
  Ok (Some starts)

abbrev pub starts_of : ℕ → Members → Read (Option (List ℕ))
starts_of units ms = starts_in units (get_member (codes "starts") ms)
