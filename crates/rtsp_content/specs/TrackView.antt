-- A track, as its fields give it.
use Rattle.std.specs.Prelude.{string_bytes, option_map}
use Rattle.rtsp_content.specs.declared.track.Track.TheInside.{Inside}
use Rattle.rtsp_content.specs.TrackValue.{TrackValue}

abbrev pub track_value : Inside → TrackValue
track_value t = record {
  name = string_bytes t.name;
  media = t.media;
  payload_type = t.payload_type;
  encoding = string_bytes t.encoding;
  clock = t.clock;
  packing = t.packing;
  octets = t.octets;
  ticks = t.ticks;
  file = string_bytes t.file;
  format_parameters = option_map (λ text. string_bytes text) t.format_parameters;
  channels = t.channels;
}
