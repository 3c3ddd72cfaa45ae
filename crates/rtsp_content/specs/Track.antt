-- A track, and what a table of a configuration says of one.
use Rattle.std.specs.Prelude.{ℕ, Bool, not, List, codes, Option, Some, None, Ok, Err, if◌then◌else◌, bytes_eq}
use Rattle.std.specs.List.{list_any}
use Rattle.toml.specs.Data.{Data, Members, string, get_member, as_table}
use Rattle.rtsp_content.specs.declared.fault.TableFault.TheVariants.{Missing, BadValue, Duplicate}
use Rattle.rtsp_content.specs.declared.keys.Form.TheVariants.{Name, Encoding, FormatParameters, Path}
use Rattle.rtsp_content.specs.declared.track.Media.{Media}
use Rattle.rtsp_content.specs.declared.track.Media.TheVariants.{Audio, Video}
use Rattle.rtsp_content.specs.Fault.{Read, must}
use Rattle.rtsp_text.specs.Results.{◌>>=◌}
use Rattle.rtsp_content.specs.declared.limits.TheConstants.{MAX_PAYLOAD_TYPE, MAX_CLOCK, MAX_TICKS, MAX_CHANNELS}
use Rattle.rtsp_content.specs.Keys.{number_at, optional_number_at, text_at, optional_text_at, of_type}
use Rattle.rtsp_content.specs.PackingLimits.{most_octets, is_shared}
use Rattle.rtsp_content.specs.Packing.{packing_of}
use Rattle.rtsp_content.specs.MediaPath.{media_path}
use Rattle.rtsp_content.specs.TrackValue.{TrackValue}

-- the word for a medium, which the SDP has too
abbrev pub media_text : Media → List ℕ
media_text Audio = codes "audio"
media_text Video = codes "video"

-- the medium that a word names
abbrev pub as_media : Data → Read Media
as_media (string text) = if bytes_eq text (codes "audio") then Ok Audio else (if bytes_eq text (codes "video") then Ok Video else Err BadValue)
as_media _ = Err BadValue

-- a medium has to be named
abbrev pub media_in : Option Data → Read Media
media_in None = Err Missing
media_in (Some d) = as_media d

-- some track has the name
abbrev pub has_track : List ℕ → List TrackValue → Bool
has_track name tracks = list_any (λ t. bytes_eq t.name name) tracks

-- what a table `[[presentation.track]]` says, beside the tracks before it; its file is in the folder of the media
abbrev pub track_of : Option (List ℕ) → List TrackValue → Members → Read TrackValue
track_of folder before ms = do
  name ← text_at (codes "name") Name ms
  fresh ← must (not (has_track name before)) Duplicate
  media ← media_in (get_member (codes "media") ms)
  payload_type ← number_at (codes "pt") 0 MAX_PAYLOAD_TYPE ms
  encoding ← text_at (codes "encoding") Encoding ms
  clock ← number_at (codes "clock") 1 MAX_CLOCK ms
  packing ← packing_of ms
  octets ← number_at (codes "octets") 1 (most_octets packing) ms
  shared ← must (is_shared packing octets) BadValue
  ticks ← number_at (codes "ticks") 1 MAX_TICKS ms
  file ← text_at (codes "file") Path ms
  format_parameters ← optional_text_at (codes "fmtp") FormatParameters ms
  channels ← optional_number_at (codes "channels") 1 MAX_CHANNELS ms
  Ok (record {
    name = name;
    media = media;
    payload_type = payload_type;
    encoding = encoding;
    clock = clock;
    packing = packing;
    octets = octets;
    ticks = ticks;
    file = media_path folder file;
    format_parameters = format_parameters;
    channels = channels;
  })

-- the same of a value, which has to be a table
abbrev pub as_track : Option (List ℕ) → List TrackValue → Data → Read TrackValue
as_track folder before d = of_type (as_table d) >>= track_of folder before
