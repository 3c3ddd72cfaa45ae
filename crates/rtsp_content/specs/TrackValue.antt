-- A track as contracts see it.
use Rattle.std.specs.Prelude.{◌≡◌, ℕ, ◌≤◌, true, List, map, Option, IfSome}
use Rattle.rtsp_content.specs.declared.track.Media.{Media}
use Rattle.rtsp_content.specs.declared.limits.TheConstants.{MAX_PAYLOAD_TYPE, MAX_CLOCK, MAX_TICKS, MAX_CHANNELS}
use Rattle.rtsp_content.specs.declared.packing.Packing.{Packing}
use Rattle.rtsp_content.specs.PackingLimits.{IsPackedWithin}
use Rattle.rtsp_content.specs.Form.{is_name, is_encoding, is_format_parameters}

pub record TrackValue : Type 0 where
  pub name : List ℕ
  pub media : Media
  pub payload_type : ℕ
  pub encoding : List ℕ
  pub clock : ℕ
  pub packing : Packing
  pub octets : ℕ
  pub ticks : ℕ
  pub file : List ℕ
  pub format_parameters : Option (List ℕ)
  pub channels : Option ℕ

-- the names of tracks
abbrev pub track_names : List TrackValue → List (List ℕ)
track_names tracks = map (λ t. t.name) tracks

-- the limits of a track's numbers and the forms of its texts
pub record IsTrackWithin (track : TrackValue) : Type 0 where
  pub name : is_name track.name ≡ true
  pub payload_type : track.payload_type ≤ MAX_PAYLOAD_TYPE
  pub encoding : is_encoding track.encoding ≡ true
  pub clock_least : 1 ≤ track.clock
  pub clock_most : track.clock ≤ MAX_CLOCK
  pub packed : IsPackedWithin track.packing track.octets
  pub ticks_least : 1 ≤ track.ticks
  pub ticks_most : track.ticks ≤ MAX_TICKS
  pub format_parameters : IfSome track.format_parameters (λ text. is_format_parameters text ≡ true)
  pub channels_least : IfSome track.channels (λ n. 1 ≤ n)
  pub channels_most : IfSome track.channels (λ n. n ≤ MAX_CHANNELS)
