-- What a configuration says of presentations.
use Rattle.std.specs.Prelude.{ℕ, Bool, not, List, [], codes, Option, Ok, bytes_eq}
use Rattle.std.specs.List.{list_any}
use Rattle.toml.specs.Data.{Data, Items, Members, get_member, as_table}
use Rattle.rtsp_content.specs.declared.fault.TableFault.TheVariants.{Duplicate}
use Rattle.rtsp_content.specs.declared.keys.Form.TheVariants.{Name}
use Rattle.rtsp_content.specs.Fault.{Read, must}
use Rattle.rtsp_text.specs.Results.{◌>>=◌}
use Rattle.rtsp_content.specs.declared.limits.TheConstants.{MAX_UNITS, MAX_UNIT_MS, MAX_TRACKS}
use Rattle.rtsp_content.specs.Keys.{number_at, text_at, list_in, of_type}
use Rattle.rtsp_content.specs.TrackValue.{TrackValue}
use Rattle.rtsp_content.specs.Tables.{each_from}
use Rattle.rtsp_content.specs.Starts.{starts_of}
use Rattle.rtsp_content.specs.Track.{as_track}
use Rattle.rtsp_content.specs.PresentationValue.{PresentationValue}

-- the tracks that the tables of an array state, after those before, with their files in the folder of the media
abbrev pub tracks_from : Option (List ℕ) → List TrackValue → Items → Read (List TrackValue)
tracks_from folder before items = each_from (as_track folder) before items

-- some presentation has the name
abbrev pub has_presentation : List ℕ → List PresentationValue → Bool
has_presentation name presentations = list_any (λ p. bytes_eq p.name name) presentations

-- what a table `[[presentation]]` says with its tables `[[presentation.track]]`, beside the presentations before it
abbrev pub presentation_of : Option (List ℕ) → List PresentationValue → Members → Read PresentationValue
presentation_of folder before ms = do
  name ← text_at (codes "name") Name ms
  fresh ← must (not (has_presentation name before)) Duplicate
  units ← number_at (codes "units") 1 MAX_UNITS ms
  unit_ms ← number_at (codes "unit_ms") 1 MAX_UNIT_MS ms
  starts ← starts_of units ms
  items ← list_in MAX_TRACKS (get_member (codes "track") ms)
  tracks ← tracks_from folder [] items
  Ok (record { name = name; units = units; unit_ms = unit_ms; starts = starts; tracks = tracks })

-- the same of a value, which has to be a table
abbrev pub as_presentation : Option (List ℕ) → List PresentationValue → Data → Read PresentationValue
as_presentation folder before d = of_type (as_table d) >>= presentation_of folder before

-- the presentations that the tables of an array state, after those before
abbrev pub presentations_from : Option (List ℕ) → List PresentationValue → Items → Read (List PresentationValue)
presentations_from folder before items = each_from (as_presentation folder) before items
