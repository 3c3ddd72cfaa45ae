-- A presentation as contracts see it.
use Rattle.std.specs.Prelude.{◌≡◌, ℕ, ◌≤◌, true, List, length, map, Option}
use Rattle.rtsp_content.specs.declared.limits.TheConstants.{MAX_UNITS, MAX_UNIT_MS, MAX_TRACKS}
use Rattle.rtsp_content.specs.Form.{is_name}
use Rattle.rtsp_content.specs.Distinct.{AreDistinct}
use Rattle.rtsp_content.specs.StartsValue.{AreStarts}
use Rattle.rtsp_content.specs.TrackValue.{TrackValue, track_names}

pub record PresentationValue : Type 0 where
  pub name : List ℕ
  pub units : ℕ
  pub unit_ms : ℕ
  pub starts : Option (List ℕ)
  pub tracks : List TrackValue

-- the names of presentations
abbrev pub presentation_names : List PresentationValue → List (List ℕ)
presentation_names presentations = map (λ p. p.name) presentations

-- the limits of a presentation's numbers, and the form of its name
pub record IsPresentationWithin (presentation : PresentationValue) : Type 0 where
  pub name : is_name presentation.name ≡ true
  pub units_least : 1 ≤ presentation.units
  pub units_most : presentation.units ≤ MAX_UNITS
  pub unit_ms_least : 1 ≤ presentation.unit_ms
  pub unit_ms_most : presentation.unit_ms ≤ MAX_UNIT_MS
  pub starts : AreStarts presentation.units presentation.starts
  pub tracks_least : 1 ≤ length presentation.tracks
  pub tracks_most : length presentation.tracks ≤ MAX_TRACKS
  pub tracks_distinct : AreDistinct (track_names presentation.tracks)
